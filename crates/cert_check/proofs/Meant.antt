-- The synchronizers and rings that listed ones are.
use Rattle.std.proofs.Common.{◌≡◌, ◌∙◌, inl, inr, refl, sym, ap, ap₂, subst, arith, List, [], ◌∷◌, ◌++◌, map, length, Contains}
use Rattle.cdc_base.specs.declared.bit.Bit.{Bit}
use Rattle.cdc_model.specs.declared.scheme.Ring.{Ring as RingEntry}
use Rattle.cdc_model.specs.declared.scheme.Sync.{Sync as SyncEntry}
use Rattle.cdc_model.specs.Design.{Design}
use Rattle.cdc_model.specs.Listed.{sync_entry, ring_entry}
use Rattle.cdc_model.specs.Schemes.{Trees, Sync, IsSync, AreSyncs, Ring, IsRing, flops, request, acknowledge}
use Rattle.cdc_model.proofs.Ascending.{here, later, parts, nothing_in}
use Rattle.cert_check.specs.Certified.{IsSyncItem, IsRingItem}
use Rattle.cert_check.specs.Rings.{line_of}

-- ---- lines are those of one synchronizer or ring

heads : {A : Type 0} (x y : A) (xs ys : List A) → x ∷ xs ≡ y ∷ ys → (x ≡ y) × (xs ≡ ys)
heads x y xs ys e = (cc, cc)

-- lists of one length in front of both are one
split : (xs ys : List Bit) (a b : Bit) (us vs : List Bit) → length xs ≡ length ys → xs ++ a ∷ us ≡ ys ++ b ∷ vs → (xs ≡ ys) × (a ≡ b) × (us ≡ vs)
split [] [] a b us vs l e = let h = heads a b us vs e in (refl, h.0, h.1)
split [] (y ∷ ys) a b us vs l e = absurd (omega arith)
split (x ∷ xs) [] a b us vs l e = absurd (omega arith)
split (x ∷ xs) (y ∷ ys) a b us vs l e =
    let h = heads x y (xs ++ a ∷ us) (ys ++ b ∷ vs) e in
    let k = split xs ys a b us vs (omega arith) h.1 in
    (ap₂ (λ z zs. z ∷ zs) h.0 k.0, k.1, k.2)

-- a ring's line determines its parts
pub same_line : (a c b d : Bit) (fs hs gs ks : List Bit) → line_of a fs b gs ≡ line_of c hs d ks → (a ≡ c) × (fs ≡ hs) × (b ≡ d) × (gs ≡ ks)
same_line a c b d fs hs gs ks e =
    let h = heads a c (fs ++ b ∷ gs) (hs ++ d ∷ ks) (ap (λ (x : RingEntry). x.bits) e) in
    let k = split fs hs b d gs ks (ap (λ (x : RingEntry). x.end) e) h.1 in
    (h.0, k.0, k.1, k.2)

abbrev made : (f : Bit) (x : Bit) (xs : List Bit) → Sync
made f x xs = record { from = f; first = x; more = xs }

from_parts : (s r : Sync) → s.from ≡ r.from → flops s ≡ flops r → s ≡ r
from_parts s r e f =
    let h = heads s.first r.first s.more r.more f in
    ap (λ (b : Bit). made b s.first s.more) e ∙ ap (λ (b : Bit). made r.from b s.more) h.0 ∙ ap (made r.from r.first) h.1

pub same_sync : (s r : Sync) → sync_entry s ≡ sync_entry r → s ≡ r
same_sync s r e = from_parts s r (ap (λ (x : SyncEntry). x.from) e) (ap (λ (x : SyncEntry). x.flops) e)

abbrev both : (s b : Sync) → Ring
both s b = record { there = s; back = b }

pub same_ring : (r q : Ring) → ring_entry r ≡ ring_entry q → r ≡ q
same_ring r q e =
    let k = same_line (request r) (request q) (acknowledge r) (acknowledge q) (flops r.there) (flops q.there) (flops r.back) (flops q.back) e in
    ap₂ both (from_parts r.there q.there k.0 k.1) (from_parts r.back q.back k.2 k.3)

-- a list is determined by what each item determines
same_all : {A B : Type 0} (f : A → B) → ((x y : A) → f x ≡ f y → x ≡ y) → (xs ys : List A) → map f xs ≡ map f ys → xs ≡ ys
same_all f one [] [] e = refl
same_all f one [] (y ∷ ys) e = cc
same_all f one (x ∷ xs) [] e = cc
same_all f one (x ∷ xs) (y ∷ ys) e =
    let h = heads (f x) (f y) (map f xs) (map f ys) e in
    ap₂ (λ z zs. z ∷ zs) (one x y h.0) (same_all f one xs ys h.1)

pub same_syncs : (ss rs : List Sync) → map sync_entry ss ≡ map sync_entry rs → ss ≡ rs
same_syncs ss rs e = same_all sync_entry same_sync ss rs e

pub same_rings : (rs qs : List Ring) → map ring_entry rs ≡ map ring_entry qs → rs ≡ qs
same_rings rs qs e = same_all ring_entry same_ring rs qs e

-- ---- all lines

module _ (d : Design) (t : Trees) where
  pub all_syncs : (es : List SyncEntry) → ((e : SyncEntry) → Contains es e → IsSyncItem d t e) → (ss : List Sync) × (es ≡ map sync_entry ss) × AreSyncs d t ss
  all_syncs [] h = ([], refl, λ s i. absurd (nothing_in s i))
  all_syncs (e ∷ es) h =
      let one = h e (here e es) in
      let more = all_syncs es (λ f i. h f (later e es f i)) in (
        one.0 ∷ more.0,
        ap₂ (λ x xs. x ∷ xs) one.1 more.1,
        λ s i. elim (parts one.0 more.0 s i) [ inl f ↦ subst (IsSync d t) f one.2 | inr j ↦ more.2 s j ],
      )

  pub all_rings : (entries : List SyncEntry) (ss : List Sync) → entries ≡ map sync_entry ss → (es : List RingEntry) → ((e : RingEntry) → Contains es e → IsRingItem d t entries e)
      → (rs : List Ring) × (es ≡ map ring_entry rs) × ((r : Ring) → Contains rs r → IsRing d t ss r)
  all_rings entries ss listed [] h = ([], refl, λ s i. absurd (nothing_in s i))
  all_rings entries ss listed (e ∷ es) h =
      let one = h e (here e es) in
      let same = same_syncs one.0 ss (sym one.1 ∙ listed) in
      let more = all_rings entries ss listed es (λ f i. h f (later e es f i)) in (
        one.2.0 ∷ more.0,
        ap₂ (λ x xs. x ∷ xs) one.2.1 more.1,
        λ s i. elim (parts one.2.0 more.0 s i) [ inl f ↦ subst (IsRing d t ss) f (subst (λ xs. IsRing d t xs one.2.0) same one.2.2) | inr j ↦ more.2 s j ],
      )
