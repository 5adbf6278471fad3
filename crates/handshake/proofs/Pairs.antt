-- Pairs of synchronizers by their places, and what is added to a list of them.
use Rattle.std.proofs.Common.{◌≡◌, ◌∙◌, ◌⊎◌, ◌↔◌, inl, inr, refl, sym, ap, ap₂, subst, arith, rules, ℕ, suc, ◌+◌, ◌-◌, ◌<◌, ◌≤◌, Bool, true, false, cond, Option, Some, None, option_map, is_some, Result, Ok, Err, List, [], ◌∷◌, ◌++◌, map, length, drop, get_or, slice_get, append_assoc, Contains}
use Rattle.std.specs.Cmp.Rules.{comparing}
use Rattle.std.specs.Prelude.{option_and_then}
use Rattle.std.specs.Result.{is_ok, OnOk}
use Rattle.std.proofs.lemmas.Bool.{cases_lt}
use Rattle.std.proofs.lemmas.List.{drop_all, drop_more, append-nil, map-append, length-map}
use Rattle.std.proofs.lemmas.List.Elements.{Contains-append_left, Contains-append_right, Contains-append_cases}
use Rattle.std.proofs.lemmas.Option.{slice_get-map, slice_get-get_or, slice_get_past, slice_get_within}
use Rattle.cdc_base.specs.declared.bit.Bit.{Bit}
use Rattle.cdc_base.specs.contracts.bit.BitPartialEq.TheImpl as equality
use Rattle.cell_graph.specs.declared.cell.CellId.{CellId}
use Rattle.cell_graph.specs.declared.cell.Node.{Node}
use Rattle.cell_graph.specs.declared.net.Net.{Net}
use Rattle.domains.specs.declared.Domains.{Domains}
use Rattle.cdc_model.specs.declared.scheme.Ring.{Ring as RingEntry}
use Rattle.cdc_model.specs.declared.scheme.Sync.{Sync as SyncEntry}
use Rattle.cdc_model.specs.Listed.{sync_entry, ring_entry}
use Rattle.cdc_model.specs.Nets.{is_register_bit, next_cell, next_node_of}
use Rattle.cdc_model.specs.Schemes.{Sync, last_of, last_flop, Ring, request, acknowledge}
use Rattle.cdc_model.specs.Found.{bits_read_by}
use Rattle.cdc_model.proofs.Ascending.{here, parts, nothing_in}
use Rattle.cdc_model.proofs.Justify.{in_slice, slice_in}
use Rattle.handshake.specs.declared.candidates.Pair.{Pair}
use Rattle.handshake.specs.Pairs.{IsPlaceAmong, IsPlaceOf, HaveOwnEnds, IsPairAt, IsPairFrom, may_turn, pair_there, ring_at, pair_of, ring_from, rings_among}

-- ---- synchronizers by their places

module _ (entries : List SyncEntry) (ss : List Sync) (are : entries ≡ map sync_entry ss) (i : ℕ) where
  at_place : slice_get entries i ≡ option_map sync_entry (slice_get ss i)
  at_place = ap (λ xs. slice_get xs i) are ∙ slice_get-map sync_entry ss i

  -- the synchronizer of an entry
  pub entry_at : (e : SyncEntry) → slice_get entries i ≡ Some e → (s : Sync) × (slice_get ss i ≡ Some s) × (e ≡ sync_entry s)
  entry_at e h = go (slice_get ss i) refl (sym at_place ∙ h)
    where
      go : (o : Option Sync) → slice_get ss i ≡ o → option_map sync_entry o ≡ Some e → (s : Sync) × (slice_get ss i ≡ Some s) × (e ≡ sync_entry s)
      go None f k = cc
      go (Some s) f k = (s, f, (cc))

  pub entry_within : (e : SyncEntry) → i < length entries → e ≡ get_or entries i e → (s : Sync) × (slice_get ss i ≡ Some s) × (e ≡ sync_entry s)
  entry_within e l h = entry_at e (slice_get-get_or entries i e l ∙ ap Some (sym h))

  pub no_entry_at : slice_get entries i ≡ None → slice_get ss i ≡ None
  no_entry_at h = go (slice_get ss i) (sym at_place ∙ h)
    where
      go : (o : Option Sync) → option_map sync_entry o ≡ None → o ≡ None
      go None k = refl
      go (Some s) k = cc

  pub no_entry_past : length entries ≤ i → slice_get ss i ≡ None
  no_entry_past l = no_entry_at (slice_get_past entries i l)

pub some_is : (a b : Bit) → Some a ≡ Some b → a ≡ b
some_is a b e = cc

-- the last flop is the last of the list
pub last_there : (f : Bit) (gs : List Bit) → slice_get (f ∷ gs) (length (f ∷ gs) - 1) ≡ Some (last_of f gs)
last_there f [] = refl
last_there f (g ∷ gs) = ap (slice_get (f ∷ g ∷ gs)) (let e : length (f ∷ g ∷ gs) - 1 ≡ suc (length (g ∷ gs) - 1) = omega arith in e) ∙ last_there g gs

-- two synchronizers at their places
pub ring_is : (ss : List Sync) (i j : ℕ) (s b : Sync) → slice_get ss i ≡ Some s → slice_get ss j ≡ Some b → ring_at ss i j ≡ Some (record { there = s; back = b })
ring_is ss i j s b e f = ap₂ (λ (o p : Option Sync). option_and_then (λ (s : Sync). option_map (λ (b : Sync). let r : Ring = record { there = s; back = b } in r) p) o) e f

pub ring_parts : (ss : List Sync) (i j : ℕ) (r : Ring) → ring_at ss i j ≡ Some r → (slice_get ss i ≡ Some r.there) × (slice_get ss j ≡ Some r.back)
ring_parts ss i j r h = go (slice_get ss i) refl (slice_get ss j) refl h
  where
    go : (o : Option Sync) → slice_get ss i ≡ o → (p : Option Sync) → slice_get ss j ≡ p
        → option_and_then (λ (s : Sync). option_map (λ (b : Sync). let r : Ring = record { there = s; back = b } in r) p) o ≡ Some r → (slice_get ss i ≡ Some r.there) × (slice_get ss j ≡ Some r.back)
    go None e p f k = cc
    go (Some s) e None f k = cc
    go (Some s) e (Some b) f k = let same : record { there = s; back = b } ≡ r = cc in (e ∙ ap (λ (q : Ring). Some q.there) same, f ∙ ap (λ (q : Ring). Some q.back) same)

-- a bit has a next value where its signal has a cell for it
pub has_node : (net : Net) (b : Bit) → is_some (next_node_of net b) ≡ is_some (next_cell net.regs b.sig)
has_node net b = go (next_cell net.regs b.sig)
  where
    go : (o : Option CellId) → is_some (option_map (λ (c : CellId). let m : Node = record { cell = c; at = b.at } in m) o) ≡ is_some o
    go None = refl
    go (Some c) = refl

-- what a call gives, where it did not fail
pub when_ok : {T E : Type 0} {P : Type 0} (r : Result T E) → is_ok r ≡ true → OnOk r P → P
when_ok (Ok x) e h = h
when_ok (Err x) e h = cc

pub pushed : {A T E : Type 0} (r : Result T E) (old new : List A) (x : A) → is_ok r ≡ true → new ≡ cond (is_ok r) (old ++ x ∷ []) old → new ≡ old ++ x ∷ []
pushed r old new x e h = h ∙ ap (λ v. cond v (old ++ x ∷ []) old) e

-- ---- one item more

-- some number below n has the property
abbrev pub HasOneBelow : ℕ → (ℕ → Type 0) → Type 0
HasOneBelow n Q = (i : ℕ) × (i < n) × Q i

pub none_below : (A : Type 0) (Q : ℕ → Type 0) → A ↔ (A ⊎ HasOneBelow 0 Q)
none_below A Q = (λ a. inl a, λ s. elim s [ inl a ↦ a | inr h ↦ absurd (let l = h.1 in omega arith) ])

pub one_below_more : (A X Y : Type 0) (Q : ℕ → Type 0) (n : ℕ) → X ↔ (A ⊎ HasOneBelow n Q) → Y ↔ (X ⊎ Q n) → Y ↔ (A ⊎ HasOneBelow (n + 1) Q)
one_below_more A X Y Q n f g = (
  λ y. elim (g.0 y) [
    | inl x ↦ elim (f.0 x) [ inl a ↦ inl a | inr h ↦ inr (h.0, (let l = h.1 in omega arith), h.2) ]
    | inr q ↦ inr (n, omega arith, q)
  ],
  λ s. elim s [
    | inl a ↦ g.1 (inl (f.1 (inl a)))
    | inr h ↦ elim (cases_lt h.0 n) [
      | inl l ↦ g.1 (inl (f.1 (inr (h.0, l, h.2))))
      | inr l ↦ g.1 (inr (subst Q (let m = h.1 in let e : h.0 ≡ n = omega arith in e) h.2))
    ]
  ],
)

-- ---- places by last flops

same_item : {A : Type 0} (o : Option A) (x y : A) → o ≡ Some x → o ≡ Some y → x ≡ y
same_item o x y e f = cc

equal_bits : (a b : Bit) → equality.ghosts.eq a b ≡ true → a ≡ b
equal_bits a b h = search rules

bits_equal : (a b : Bit) → a ≡ b → equality.ghosts.eq a b ≡ true
bits_equal a b e = subst (λ (c : Bit). equality.ghosts.eq a c ≡ true) e (search (comparing, rules))

-- one synchronizer more
pub place_more : (ss : List Sync) (n : ℕ) (s : Sync) (f b : Bit) (old new : Option ℕ) → slice_get ss n ≡ Some s → f ≡ last_flop s → new ≡ cond (equality.ghosts.eq f b) (Some n) old
    → IsPlaceAmong ss n b old → IsPlaceAmong ss (n + 1) b new
place_more ss n s f b old new at is e h = subst (IsPlaceAmong ss (n + 1) b) (sym e) (go (equality.ghosts.eq f b) refl old h)
  where
    go : (v : Bool) → equality.ghosts.eq f b ≡ v → (o : Option ℕ) → IsPlaceAmong ss n b o → IsPlaceAmong ss (n + 1) b (cond v (Some n) o)
    go true g o k = (s, at, sym is ∙ equal_bits f b g)
    go false g (Some i) k = k
    go false g None k = λ i r l place same. elim (cases_lt i n) [
      | inl m ↦ k i r m place same
      | inr m ↦ absurd (never (sym g ∙ bits_equal f b (is ∙ ap last_flop (same_item (slice_get ss n) s r at (subst (λ (j : ℕ). slice_get ss j ≡ Some r) (let e : i ≡ n = omega arith in e) place)) ∙ same)))
    ]
      where
        never : false ≡ true → ⊥
        never w = cc

pub no_places : (ss : List Sync) (b : Bit) → IsPlaceAmong ss 0 b None
no_places ss b i s l e same = omega arith

-- all synchronizers
pub places_of : (ss : List Sync) (n : ℕ) (b : Bit) (o : Option ℕ) → length ss ≤ n → IsPlaceAmong ss n b o → IsPlaceOf ss b o
places_of ss n b (Some i) l h = h
places_of ss n b None l h = λ i s e same. h i s (let m = slice_get_within ss i s e in omega arith) e same

-- ---- pairs

module _ (net : Net) (domains : Domains) (ss : List Sync) (there : ℕ) where
  chosen : Ring → ℕ → Option Pair
  chosen r j = cond (may_turn net domains r) (Some (pair_there there j r)) None

  -- with no synchronizer that ends with the bit there is no pair
  pub no_place_no_pair : (b : Bit) (p : Pair) → IsPlaceOf ss b None → IsPairAt net domains ss there b p → ⊥
  no_place_no_pair b p none h = none p.back h.0.back (ring_parts ss there p.back h.0 h.1).1 h.2

  pub pair_is : (b : Bit) (j : ℕ) (p : Pair) → HaveOwnEnds ss → IsPlaceOf ss b (Some j) → IsPairAt net domains ss there b p → pair_of net domains ss there j ≡ Some p
  pair_is b j p own place h =
      let a = ring_parts ss there p.back h.0 h.1 in
      let same : p.back ≡ j = own p.back j h.0.back place.0 a.1 place.1 (h.2 ∙ sym place.2) in
      ap (option_and_then (λ (r : Ring). cond (may_turn net domains r) (Some (pair_there there j r)) None)) (subst (λ (k : ℕ). ring_at ss there k ≡ Some h.0) same h.1)
      ∙ ap (λ v. cond v (Some (pair_there there j h.0)) None) h.3
      ∙ ap (λ (k : ℕ). Some (pair_there there k h.0)) (sym same) ∙ ap Some (sym h.4)

  pub is_pair : (b : Bit) (j : ℕ) (p : Pair) → IsPlaceOf ss b (Some j) → pair_of net domains ss there j ≡ Some p → IsPairAt net domains ss there b p
  is_pair b j p place h = go (ring_at ss there j) refl h
    where
      go : (o : Option Ring) → ring_at ss there j ≡ o → option_and_then (λ (r : Ring). cond (may_turn net domains r) (Some (pair_there there j r)) None) o ≡ Some p → IsPairAt net domains ss there b p
      go None e k = cc
      go (Some r) e k = taken (may_turn net domains r) refl k
        where
          taken : (v : Bool) → may_turn net domains r ≡ v → cond v (Some (pair_there there j r)) None ≡ Some p → IsPairAt net domains ss there b p
          taken false f m = cc
          taken true f m =
              let same : pair_there there j r ≡ p = cc in
              subst (IsPairAt net domains ss there b) same
              (r, e, ap last_flop (same_item (slice_get ss j) r.back place.0 (ring_parts ss there j r e).1 place.1) ∙ place.2, f, refl)

  -- no pair more
  pub none_added : (A : Type 0) (b : Bit) (p : Pair) → (IsPairAt net domains ss there b p → ⊥) → A ↔ (A ⊎ IsPairAt net domains ss there b p)
  none_added A b p nothing = (λ a. inl a, λ s. elim s [ inl a ↦ a | inr h ↦ absurd (nothing h) ])

  -- no pair at this place
  pub none_there : (b : Bit) (j : ℕ) (p : Pair) → HaveOwnEnds ss → IsPlaceOf ss b (Some j) → pair_of net domains ss there j ≡ None → IsPairAt net domains ss there b p → ⊥
  none_there b j p own place none h = nothing p (sym none ∙ pair_is b j p own place h)
    where
      nothing : (q : Pair) → None ≡ Some q → ⊥
      nothing q e = cc

  -- the pair at this place
  pub one_added : (old new : List Pair) (b : Bit) (j : ℕ) (q p : Pair) → HaveOwnEnds ss → IsPlaceOf ss b (Some j) → pair_of net domains ss there j ≡ Some q → new ≡ old ++ q ∷ []
      → Contains new p ↔ (Contains old p ⊎ IsPairAt net domains ss there b p)
  one_added old new b j q p own place e n = (
    λ i. elim (Contains-append_cases old (q ∷ []) p (subst (λ xs. Contains xs p) n i)) [
      | inl k ↦ inl k
      | inr k ↦ elim (parts q [] p k) [ inl same ↦ inr (subst (IsPairAt net domains ss there b) same (is_pair b j q place e)) | inr l ↦ absurd (nothing_in p l) ]
    ],
    λ s. subst (λ xs. Contains xs p) (sym n) (elim s [
      | inl i ↦ Contains-append_left old (q ∷ []) p i
      | inr h ↦ Contains-append_right old (q ∷ []) p (subst (Contains (q ∷ [])) (same_item (pair_of net domains ss there j) q p e (pair_is b j p own place h)) (here q []))
    ]),
  )

  -- with no synchronizer at the place there is no pair from there
  pub none_from : (p : Pair) → slice_get ss there ≡ None → IsPairFrom net domains ss there p → ⊥
  none_from p none h = nothing h.2.0.there (sym none ∙ (ring_parts ss there p.back h.2.0 h.2.1).0)
    where
      nothing : (s : Sync) → None ≡ Some s → ⊥
      nothing s e = cc

  module _ (bits : List Bit) (p : Pair) where
    -- a pair of the bit at a place of the list
    abbrev pub IsPairOfBit : ℕ → Type 0
    IsPairOfBit i = (b : Bit) × (slice_get bits i ≡ Some b) × IsPairAt net domains ss there b p

    pub bit_more : (A X Y : Type 0) (n : ℕ) (none : Bit) → n < length bits → X ↔ (A ⊎ HasOneBelow n IsPairOfBit) → Y ↔ (X ⊎ IsPairAt net domains ss there (get_or bits n none) p)
        → Y ↔ (A ⊎ HasOneBelow (n + 1) IsPairOfBit)
    bit_more A X Y n none l f g = one_below_more A X Y IsPairOfBit n f (
      λ y. elim (g.0 y) [ inl x ↦ inl x | inr h ↦ inr (get_or bits n none, slice_get-get_or bits n none l, h) ],
      λ s. g.1 (elim s [
        | inl x ↦ inl x
        | inr h ↦ inr (subst (λ (b : Bit). IsPairAt net domains ss there b p) (same_item (slice_get bits n) h.0 (get_or bits n none) h.1 (slice_get-get_or bits n none l)) h.2)
      ]),
    )

    -- the pairs of all bits that the source reads are all pairs from there
    pub bits_all : (A X : Type 0) (n : ℕ) (s : Sync) → length bits ≤ n → slice_get ss there ≡ Some s → bits ≡ bits_read_by net [] s.from → X ↔ (A ⊎ HasOneBelow n IsPairOfBit)
        → X ↔ (A ⊎ IsPairFrom net domains ss there p)
    bits_all A X n s l at are f = (
      λ x. elim (f.0 x) [
        | inl a ↦ inl a
        | inr h ↦ inr (h.2.0, subst (λ (b : Bit). Contains (bits_read_by net [] b) h.2.0) (from_is h.2.0 h.2.2) (subst (λ xs. Contains xs h.2.0) are (slice_in bits h.0 h.2.0 h.2.1)), h.2.2)
      ],
      λ k. f.1 (elim k [
        | inl a ↦ inl a
        | inr h ↦
            let i : Contains bits h.0 = subst (λ xs. Contains xs h.0) (sym are) (subst (λ (b : Bit). Contains (bits_read_by net [] b) h.0) (sym (from_is h.0 h.2)) h.1) in
            inr (i.0, (let m = i.1 in omega arith), (h.0, in_slice bits h.0 i, h.2))
      ]),
    )
      where
        from_is : (b : Bit) → IsPairAt net domains ss there b p → s.from ≡ p.request
        from_is b h =
            let same = same_item (slice_get ss there) s h.0.there at (ring_parts ss there p.back h.0 h.1).0 in
            ap (λ (x : Sync). x.from) same ∙ ap (λ (q : Pair). q.request) (sym h.4)

-- all pairs
pub pairs_all : (net : Net) (domains : Domains) (ss : List Sync) (n : ℕ) (A X : Type 0) (p : Pair) → length ss ≤ n → (A → ⊥) → X ↔ (A ⊎ HasOneBelow n (λ i. IsPairFrom net domains ss i p))
    → X ↔ IsPairFrom net domains ss p.there p
pairs_all net domains ss n A X p l nothing f = (
  λ x. elim (f.0 x) [
    | inl a ↦ absurd (nothing a)
    | inr h ↦ subst (λ (i : ℕ). IsPairFrom net domains ss i p) (ap (λ (q : Pair). q.there) (sym h.2.2.4)) h.2
  ],
  λ h. f.1 (inr (p.there, (let m = slice_get_within ss p.there h.2.0.there (ring_parts ss p.there p.back h.2.0 h.2.1).0 in omega arith), h)),
)

pub both_iff : {A B C : Type 0} → A ↔ B → B ↔ C → A ↔ C
both_iff f g = (λ a. g.0 (f.0 a), λ c. f.1 (g.1 c))

pub in_none : (xs : List Pair) (p : Pair) → xs ≡ [] → Contains xs p → ⊥
in_none xs p e i = nothing_in p (subst (λ ys. Contains ys p) e i)

-- there are as many synchronizers as entries
pub few_entries : (entries : List SyncEntry) (ss : List Sync) → entries ≡ map sync_entry ss → (n : ℕ) → length entries ≤ n → length ss ≤ n
few_entries entries ss are n l = let e = ap length are ∙ length-map ss sync_entry in omega arith

-- ---- rings pair by pair

-- of each pair both sources are bits of registers
abbrev pub AreOfRegisters : Net → List Sync → List Pair → Type 0
AreOfRegisters net ss ps = (p : Pair) (r : Ring) → Contains ps p → ring_at ss p.there p.back ≡ Some r → (is_register_bit net (request r) ≡ true) × (is_register_bit net (acknowledge r) ≡ true)

pub rings_more : (net : Net) (ss : List Sync) (all old new : List RingEntry) (ps : List Pair) (i : ℕ) (d : Pair) → i < length ps
    → all ≡ old ++ map ring_entry (rings_among net ss (drop i ps)) → new ≡ old ++ map ring_entry (ring_from net ss (get_or ps i d))
    → all ≡ new ++ map ring_entry (rings_among net ss (drop (i + 1) ps))
rings_more net ss all old new ps i d l e n =
    e ∙ ap (λ xs. old ++ map ring_entry (rings_among net ss xs)) (drop_more ps i d l)
    ∙ ap (λ xs. old ++ xs) (map-append ring_entry (ring_from net ss (get_or ps i d)) (rings_among net ss (drop (i + 1) ps)))
    ∙ sym (append_assoc old (map ring_entry (ring_from net ss (get_or ps i d))) (map ring_entry (rings_among net ss (drop (i + 1) ps))))
    ∙ ap (λ xs. xs ++ map ring_entry (rings_among net ss (drop (i + 1) ps))) (sym n)

-- no pair more
pub rings_end : (net : Net) (ss : List Sync) (all rings : List RingEntry) (ps : List Pair) (i : ℕ) → length ps ≤ i → all ≡ rings ++ map ring_entry (rings_among net ss (drop i ps)) → rings ≡ all
rings_end net ss all rings ps i l e = sym (e ∙ ap (λ xs. rings ++ map ring_entry (rings_among net ss xs)) (drop_all i ps l) ∙ append-nil rings)
