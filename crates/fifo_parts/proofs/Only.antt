-- The only synchronizer from a bit to a clock, by the places of those from the bit.
use Rattle.std.proofs.Common.{◌≡◌, ◌∙◌, ℕ, zero, suc, ◌+◌, ◌<◌, Bool, true, false, cond, ◌&&◌, Option, Some, None, option_map, is_some, Bor, List, [], ◌∷◌, ◌++◌, map, length, slice_get, get_or, drop, refl, sym, ap, subst, arith}
use Rattle.std.specs.List.{filter}
use Rattle.std.proofs.lemmas.List.{append_assoc, drop_more}
use Rattle.cdc_base.specs.declared.bit.Bit.{Bit}
use Rattle.cell_graph.specs.Reading.{bit_eq}
use Rattle.cdc_model.specs.declared.scheme.Sync.{Sync as SyncEntry}
use Rattle.cdc_model.specs.Listed.{sync_entry}
use Rattle.cdc_model.specs.Schemes.{Sync}
use Rattle.fifo_parts.specs.Brought.{at_places, in_front, places_from, tested}

-- the list is of the one that is found, if any is
abbrev pub IsFoundOf : List Sync → Option SyncEntry → Type 0
IsFoundOf ss None = ss ≡ []
IsFoundOf ss (Some e) = (y : Sync) × (ss ≡ y ∷ []) × (e ≡ sync_entry y)

-- Of the synchronizers at the places, those of which the test holds are the one that is found and those at the places to come.
pub record IsOnlySoFar (test : Sync → Bool) (syncs : List Sync) (places rest : List ℕ) (found : Option SyncEntry) : Type 0 where
  pub before : List Sync
  pub is_found : IsFoundOf before found
  pub are : filter test (at_places syncs places) ≡ before ++ filter test (at_places syncs rest)

pub one_entry : (o : Option Sync) (x : SyncEntry) → Some x ≡ option_map sync_entry o → (y : Sync) × (o ≡ Some y) × (x ≡ sync_entry y)
one_entry None x e = cc
one_entry (Some s) x e = (s, refl, cc)

filter_front : (test : Sync → Bool) (o : Option Sync) (ss : List Sync) → filter test (in_front o ss) ≡ in_front (tested test o) (filter test ss)
filter_front test None ss = refl
filter_front test (Some s) ss = go (test s)
  where
    go : (b : Bool) → cond b (s ∷ filter test ss) (filter test ss) ≡ in_front (cond b (Some s) None) (filter test ss)
    go true = refl
    go false = refl

module _ (test : Sync → Bool) (syncs : List Sync) (places : List ℕ) where
  module _ (i : ℕ) (lt : i < length places) (o : Option SyncEntry) (so : IsOnlySoFar test syncs places (drop i places) o) where
    -- what the place has comes next
    next_is : filter test (at_places syncs places) ≡ so.before ++ in_front (tested test (slice_get syncs (get_or places i 0)))
        (filter test (at_places syncs (drop (i + 1) places)))
    next_is = so.are ∙ ap (λ ns. so.before ++ filter test (at_places syncs ns)) (drop_more places i 0 lt)
        ∙ ap (λ ss. so.before ++ ss) (filter_front test (slice_get syncs (get_or places i 0)) (at_places syncs (drop (i + 1) places)))

    pub only_found : (y : Sync) → tested test (slice_get syncs (get_or places i 0)) ≡ Some y → o ≡ None
        → IsOnlySoFar test syncs places (drop (i + 1) places) (Some (sync_entry y))
    only_found y e none =
        let empty : so.before ≡ [] = subst (IsFoundOf so.before) none so.is_found in record {
          before = y ∷ [];
          is_found = (y, refl, refl);
          are = next_is ∙ ap (λ x. so.before ++ in_front x (filter test (at_places syncs (drop (i + 1) places)))) e
              ∙ ap (λ ss. ss ++ y ∷ filter test (at_places syncs (drop (i + 1) places))) empty;
        }

-- the synchronizers at the places of those from a bit are these
from_places : (b : Bit) (all : List Sync) (n : ℕ) (ss : List Sync) → ((k : ℕ) → slice_get ss k ≡ slice_get all (n + k))
    → at_places all (places_from b n ss) ≡ filter (λ s. bit_eq s.from b) ss
from_places b all n [] h = refl
from_places b all n (s ∷ ss) h = go (bit_eq s.from b) (from_places b all (suc n) ss
    (λ k. h (suc k) ∙ ap (slice_get all) (let e : n + suc k ≡ suc n + k = omega arith in e)))
  where
    first : slice_get all n ≡ Some s
    first = ap (slice_get all) (let e : n ≡ n + 0 = omega arith in e) ∙ sym (h 0)

    go : (t : Bool) → at_places all (places_from b (suc n) ss) ≡ filter (λ s. bit_eq s.from b) ss
        → at_places all (cond t (n ∷ places_from b (suc n) ss) (places_from b (suc n) ss)) ≡ cond t (s ∷ filter (λ x. bit_eq x.from b) ss)
        (filter (λ x. bit_eq x.from b) ss)
    go true rest = ap (λ o. in_front o (at_places all (places_from b (suc n) ss))) first ∙ ap (λ xs. s ∷ xs) rest
    go false rest = rest

filter_both : (p q : Sync → Bool) (ss : List Sync) → filter q (filter p ss) ≡ filter (λ s. p s && q s) ss
filter_both p q [] = refl
filter_both p q (s ∷ ss) = go (p s) (filter_both p q ss)
  where
    go : (t : Bool) → filter q (filter p ss) ≡ filter (λ x. p x && q x) ss
        → filter q (cond t (s ∷ filter p ss) (filter p ss)) ≡ cond (t && q s) (s ∷ filter (λ x. p x && q x) ss) (filter (λ x. p x && q x) ss)
    go true rest = ap (λ xs. cond (q s) (s ∷ xs) xs) rest
    go false rest = rest

-- of the synchronizers at the places of those from a bit, those of which the test holds are those from the bit of which it does
pub tested_from : (b : Bit) (test : Sync → Bool) (syncs : List Sync)
    → filter test (at_places syncs (places_from b 0 syncs)) ≡ filter (λ s. bit_eq s.from b && test s) syncs
tested_from b test syncs = ap (filter test) (from_places b syncs 0 syncs (λ k. ap (slice_get syncs) (let e : k ≡ 0 + k = omega arith in e)))
    ∙ filter_both (λ s. bit_eq s.from b) test syncs

pub none_now : (o : Option (Bor SyncEntry)) → is_some o ≡ false → option_map (λ (r : Bor SyncEntry). r.now) o ≡ None
none_now None e = refl
none_now (Some r) e = cc

map_at : (ss : List Sync) (i : ℕ) (d : Sync) (x : SyncEntry) → i < length (map sync_entry ss) → (i < length ss)
    × (get_or (map sync_entry ss) i x ≡ sync_entry (get_or ss i d))
map_at [] i d x l = absurd (omega arith)
map_at (s ∷ ss) zero d x l = (omega arith, refl)
map_at (s ∷ ss) (suc i) d x l = let h = map_at ss i d x (omega (arith, l)) in let k = h.0 in (omega arith, h.1)

-- the place of one synchronizer more
pub places_more : (meant : List Sync) (entries : List SyncEntry) (i : ℕ) (x : SyncEntry) (b : Bit) (old new : List ℕ)
    → entries ≡ map sync_entry meant → i < length entries → x ≡ get_or entries i x
    → places_from b 0 meant ≡ old ++ places_from b i (drop i meant) → (bit_eq x.from b ≡ true → new ≡ old ++ i ∷ [])
    → (bit_eq x.from b ≡ false → new ≡ old)
    → places_from b 0 meant ≡ new ++ places_from b (i + 1) (drop (i + 1) meant)
places_more meant entries i x b old new e l at so here other = so ∙ ap (λ ss. old ++ places_from b i ss) (drop_more meant i d there.0)
    ∙ go (bit_eq x.from b) refl
  where
    d : Sync
    d = record { from = x.from; first = x.from; more = [] }

    there : (i < length meant) × (get_or (map sync_entry meant) i x ≡ sync_entry (get_or meant i d))
    there = map_at meant i d x (subst (λ xs. i < length xs) e l)

    from : (get_or meant i d).from ≡ x.from
    from = ap (λ (y : SyncEntry). y.from) (sym there.1 ∙ ap (λ xs. get_or xs i x) (sym e) ∙ sym at)

    more : places_from b (suc i) (drop (i + 1) meant) ≡ places_from b (i + 1) (drop (i + 1) meant)
    more = ap (λ k. places_from b k (drop (i + 1) meant)) (let n : suc i ≡ i + 1 = omega arith in n)

    go : (t : Bool) → bit_eq x.from b ≡ t → old ++ places_from b i (get_or meant i d ∷ drop (i + 1) meant) ≡ new ++ places_from b (i + 1)
        (drop (i + 1) meant)
    go true f = ap (λ t. old ++ cond t (i ∷ places_from b (suc i) (drop (i + 1) meant)) (places_from b (suc i) (drop (i + 1) meant)))
        (ap (λ k. bit_eq k b) from ∙ f)
        ∙ sym (append_assoc old (i ∷ []) (places_from b (suc i) (drop (i + 1) meant)))
        ∙ ap (λ ns. ns ++ places_from b (suc i) (drop (i + 1) meant)) (sym (here f)) ∙ ap (λ ns. new ++ ns) more
    go false f = ap (λ t. old ++ cond t (i ∷ places_from b (suc i) (drop (i + 1) meant)) (places_from b (suc i) (drop (i + 1) meant)))
        (ap (λ k. bit_eq k b) from ∙ f)
        ∙ ap (λ ns. ns ++ places_from b (suc i) (drop (i + 1) meant)) (sym (other f)) ∙ ap (λ ns. new ++ ns) more
