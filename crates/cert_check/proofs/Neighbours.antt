-- Words that enter a group by several synchronizers are neighbours among the sorted entries.
use Rattle.std.specs.Prelude.{unwrap_or}
use Rattle.std.proofs.Common.{◌≡◌, ◌≢◌, ◌∙◌, ◌⊎◌, inl, inr, refl, sym, ap, ap₂, subst, arith, ℕ, suc, ◌<◌, ◌≤◌, ◌==◌, ◌&&◌, ◌||◌, nat_lt, eqb-true, eq-eqb, ltb-true, lt-ltb, Bool, true, false, not, cond, Option, Some, None, is_some, option_map, Result, Ok, Err, List, [], ◌∷◌, ◌++◌, map, length, get_or, slice_get, Contains, Ordering, Less, Equal, Greater}
use Rattle.std.specs.Cmp.{IsTotalOrder}
use Rattle.std.specs.List.{swap}
use Rattle.std.specs.List.Sorted.{IsPermutation, IsSorted, IsBinarySearchResult}
use Rattle.std.specs.Ordering.{is_lt, ordering_then, nat_cmp}
use Rattle.std.specs.Result.{is_ok, MatchResult}
use Rattle.std.proofs.lemmas.Bool.{and_parts, and_from, or_cases, cases_lt, cases_eq, false_from_ne_true}
use Rattle.std.proofs.lemmas.List.Edits.{swapped_from_swap, length-swap}
use Rattle.std.proofs.lemmas.List.Sorted.{Contains-permutation, IsPermutation-keeps, IsPermutation-sym, IsNonDecreasingBy-from_sort, searched, sorted_far, ranks_by}
use Rattle.std.proofs.lemmas.Option.{slice_get-get_or, slice_get-map, slice_get_within, get_or_from_slice_get}
use Rattle.cdc_base.specs.declared.bit.Bit.{Bit}
use Rattle.cell_graph.specs.declared.net.Net.{Net}
use Rattle.domains.specs.declared.Domains.{Domains}
use Rattle.domains.specs.Assignment.{group_of}
use Rattle.domains.specs.Fit.{Fit}
use Rattle.cdc_model.specs.declared.scheme.GrayReg.{GrayReg}
use Rattle.cdc_model.specs.declared.scheme.Sync.{Sync as SyncEntry}
use Rattle.cdc_model.specs.Design.{group}
use Rattle.cdc_model.specs.Listed.{sync_entry}
use Rattle.cdc_model.specs.Nets.{design_of, net_trees, next_cell, is_within}
use Rattle.cdc_model.specs.Ordered.{is_before}
use Rattle.cdc_model.specs.Schemes.{Sync, AreSyncs}
use Rattle.cdc_model.specs.Verdict.{is_code}
use Rattle.cdc_model.proofs.Ascending.{here, later, parts, nothing_in, in_map, from_map}
use Rattle.cdc_model.proofs.Behind.{async_clock}
use Rattle.cdc_model.proofs.Justify.{slice_in, in_slice}
use Rattle.cdc_model.proofs.NetDesign.{group_is}
use Rattle.cert_check.specs.contracts.meetings.EntryOrd.TheImpl as order
use Rattle.cert_check.specs.contracts.meetings.EntryOrd.TheImpl.Laws.{total-law}
use Rattle.cert_check.specs.declared.meetings.Entry.{Entry}
use Rattle.cert_check.specs.Checked.{Meet, IsFoundMeeting}
use Rattle.cert_check.specs.Meetings.{AreCodes, entry_with, entry_of, entry_there, entries_of, meet, IsFirstPair}

-- ---- codes

abbrev code : GrayReg → ℕ
code y = y.gray

never : {A : Type 0} → true ≡ false → A
never e = cc

code_in : (grays : List GrayReg) (w : ℕ) → is_code grays w ≡ true → Contains (map code grays) w
code_in [] w h = absurd (never (sym h))
code_in (y ∷ ys) w h = elim (or_cases (y.gray == w) (is_code ys w) h) [
  | inl e ↦ subst (Contains (y.gray ∷ map code ys)) (eqb-true y.gray w e) (here y.gray (map code ys))
  | inr k ↦ later y.gray (map code ys) w (code_in ys w k)
]

first_true : (u v : Bool) → u ≡ true → (u || v) ≡ true
first_true true v h = refl
first_true false v h = never (sym h)

last_true : (u v : Bool) → v ≡ true → (u || v) ≡ true
last_true true v h = refl
last_true false v h = h

in_code : (grays : List GrayReg) (w : ℕ) → Contains (map code grays) w → is_code grays w ≡ true
in_code [] w i = absurd (nothing_in w i)
in_code (y ∷ ys) w i = elim (parts y.gray (map code ys) w i) [
  | inl e ↦ first_true (y.gray == w) (is_code ys w) (eq-eqb y.gray w e)
  | inr j ↦ last_true (y.gray == w) (is_code ys w) (in_code ys w j)
]

-- a search finds a code where it is one
pub found_code : (grays : List GrayReg) (codes : List ℕ) (w : ℕ) (r : Result ℕ ℕ) → AreCodes grays codes → IsBinarySearchResult (λ y. nat_cmp y w) codes r → is_ok r ≡ is_code grays w
found_code grays codes w r are h = go r (searched codes w r h (λ i j l m. IsNonDecreasingBy-from_sort (λ (x : ℕ). x) codes are.1 i j 0 l m))
  where
    go : (r : Result ℕ ℕ) → MatchResult r (λ i. (i < length codes) × (get_or codes i 0 ≡ w))
        (λ i. (i ≤ length codes) × ((k : ℕ) → k < i → get_or codes k 0 < w) × ((k : ℕ) → i ≤ k → k < length codes → w < get_or codes k 0)) → is_ok r ≡ is_code grays w
    go (Ok i) k = sym (in_code grays w (Contains-permutation codes (map code grays) w (IsPermutation-sym (map code grays) codes are.0) (slice_in codes i w (slice_get-get_or codes i 0 k.0 ∙ ap Some k.1))))
    go (Err i) k = sym (false_from_ne_true (is_code grays w) (λ e.
        let c = Contains-permutation (map code grays) codes w are.0 (code_in grays w e) in
        let at : get_or codes c.0 0 ≡ w = get_or_from_slice_get codes c.0 w 0 (in_slice codes w c) in
        elim (cases_lt c.0 i) [
          | inl l ↦ let m = k.1 c.0 l in absurd (omega arith)
          | inr l ↦ let m = k.2 c.0 l c.1 in absurd (omega arith)
        ]))

-- ---- two entries

-- both lead from the word into the group, and from one bit or the word is no code
pub record AreTwo (grays : List GrayReg) (w g : ℕ) (a b : Entry) : Type 0 where
  pub one_word : a.word ≡ w
  pub other_word : b.word ≡ w
  pub one_group : a.group ≡ g
  pub other_group : b.group ≡ g
  pub one : (a.at ≡ b.at) ⊎ (is_code grays w ≡ false)

-- at two places of the list stand two such entries
abbrev pub HasTwo : List GrayReg → ℕ → ℕ → List Entry → Type 0
HasTwo grays w g es = (i : ℕ) × (j : ℕ) × (a : Entry) × (b : Entry) × (i ≢ j) × (slice_get es i ≡ Some a) × (slice_get es j ≡ Some b) × AreTwo grays w g a b

turned : (grays : List GrayReg) (w g : ℕ) (a b : Entry) → AreTwo grays w g a b → AreTwo grays w g b a
turned grays w g a b h = record {
  one_word = h.other_word;
  other_word = h.one_word;
  one_group = h.other_group;
  other_group = h.one_group;
  one = elim h.one [ inl e ↦ inl (sym e) | inr f ↦ inr f ];
}

not_false : (v : Bool) → v ≡ false → not v ≡ true
not_false true e = never e
not_false false e = refl

not_true : (v : Bool) → not v ≡ true → v ≡ false
not_true true e = never (sym e)
not_true false e = refl

two_meet : (grays : List GrayReg) (w g : ℕ) (a b : Entry) → AreTwo grays w g a b → meet grays a b ≡ true
two_meet grays w g a b h =
    and_from ((a.word == b.word) && (a.group == b.group)) ((a.at == b.at) || not (is_code grays a.word))
    (and_from (a.word == b.word) (a.group == b.group) (eq-eqb a.word b.word (h.one_word ∙ sym h.other_word)) (eq-eqb a.group b.group (h.one_group ∙ sym h.other_group)))
    (elim h.one [
      | inl e ↦ first_true (a.at == b.at) (not (is_code grays a.word)) (eq-eqb a.at b.at e)
      | inr f ↦ last_true (a.at == b.at) (not (is_code grays a.word)) (not_false (is_code grays a.word) (ap (is_code grays) h.one_word ∙ f))
    ])

meet_two : (grays : List GrayReg) (a b : Entry) → meet grays a b ≡ true → AreTwo grays a.word a.group a b
meet_two grays a b h =
    let p = and_parts ((a.word == b.word) && (a.group == b.group)) ((a.at == b.at) || not (is_code grays a.word)) h in
    let q = and_parts (a.word == b.word) (a.group == b.group) p.0 in
    record {
      one_word = refl;
      other_word = sym (eqb-true a.word b.word q.0);
      one_group = refl;
      other_group = sym (eqb-true a.group b.group q.1);
      one = elim (or_cases (a.at == b.at) (not (is_code grays a.word)) p.1) [ inl e ↦ inl (eqb-true a.at b.at e) | inr f ↦ inr (not_true (is_code grays a.word) f) ];
    }

-- ---- sorted entries

-- the first entry's key is no later
abbrev AreInOrder : Entry → Entry → Type 0
AreInOrder a b = (a.word < b.word) ⊎ ((a.word ≡ b.word) × ((a.group < b.group) ⊎ ((a.group ≡ b.group) × (a.at ≤ b.at))))

-- by a comparison that doesn't find the second number less
by_number : (m n : ℕ) (o : Ordering) → is_lt (ordering_then (nat_cmp n m) o) ≡ false → (m < n) ⊎ ((m ≡ n) × (is_lt o ≡ false))
by_number m n o h = go (nat_lt n m) refl (n == m) refl h
  where
    go : (u : Bool) → nat_lt n m ≡ u → (v : Bool) → (n == m) ≡ v → is_lt (ordering_then (cond u Less (cond v Equal Greater)) o) ≡ false → (m < n) ⊎ ((m ≡ n) × (is_lt o ≡ false))
    go true e v f k = never k
    go false e true f k = inr (sym (eqb-true n m f), k)
    go false e false f k = elim (cases_lt m n) [
      | inl l ↦ inl l
      | inr l ↦ elim (cases_lt n m) [
        | inl s ↦ never (sym (lt-ltb n m s) ∙ e)
        | inr s ↦ never (sym (eq-eqb n m (omega arith)) ∙ f)
      ]
    ]

by_last : (m n : ℕ) → is_lt (nat_cmp n m) ≡ false → m ≤ n
by_last m n h = elim (cases_lt n m) [ inl l ↦ never (sym (ap (λ v. is_lt (cond v Less (cond (n == m) Equal Greater))) (lt-ltb n m l)) ∙ h) | inr l ↦ l ]

total : IsTotalOrder order.ghosts.cmp
total = total-law

not_less : (a b : Entry) → is_lt (order.ghosts.cmp b a) ≡ false → AreInOrder a b
not_less a b h = elim (by_number a.word b.word (ordering_then (nat_cmp b.group a.group) (nat_cmp b.at a.at)) h) [
  | inl l ↦ inl l
  | inr e ↦ elim (by_number a.group b.group (nat_cmp b.at a.at) e.1) [
    | inl l ↦ inr (e.0, inl l)
    | inr f ↦ inr (e.0, inr (f.0, by_last a.at b.at f.1))
  ]
]

in_order : (es : List Entry) → IsSorted order.ghosts.cmp es → (i j : ℕ) (a b : Entry) → i ≤ j → slice_get es i ≡ Some a → slice_get es j ≡ Some b → AreInOrder a b
in_order es sorted i j a b l e f = not_less a b
    (subst (λ z. is_lt (order.ghosts.cmp z a) ≡ false) (get_or_from_slice_get es j b a f)
    (subst (λ z. is_lt (order.ghosts.cmp (get_or es j a) z) ≡ false) (get_or_from_slice_get es i a a e)
    (sorted_far (λ x y. is_lt (order.ghosts.cmp x y)) (ranks_by total (λ (x : Entry). x)) es sorted i j a l (slice_get_within es j b f))))

-- what stands between two entries of one word and group has these too, and their bit where they have one
between : (a c b : Entry) → a.word ≡ b.word → a.group ≡ b.group → AreInOrder a c → AreInOrder c b → (c.word ≡ a.word) × (c.group ≡ a.group) × (a.at ≡ b.at → c.at ≡ a.at)
between a c b e f (inl l) (inl m) = absurd (omega arith)
between a c b e f (inl l) (inr m) = let k = m.0 in absurd (omega arith)
between a c b e f (inr l) (inl m) = let k = l.0 in absurd (omega arith)
between a c b e f (inr l) (inr m) = go l.1 m.1
  where
    go : (a.group < c.group) ⊎ ((a.group ≡ c.group) × (a.at ≤ c.at)) → (c.group < b.group) ⊎ ((c.group ≡ b.group) × (c.at ≤ b.at)) → (c.word ≡ a.word) × (c.group ≡ a.group) × (a.at ≡ b.at → c.at ≡ a.at)
    go (inl u) (inl v) = absurd (omega arith)
    go (inl u) (inr v) = let k = v.0 in absurd (omega arith)
    go (inr u) (inl v) = let k = u.0 in absurd (omega arith)
    go (inr u) (inr v) = (sym l.0, sym u.0, λ k. let x = u.1 in let y = v.1 in omega arith)

-- two neighbours lead from the word into the group
abbrev pub HasNeighbours : List GrayReg → ℕ → ℕ → List Entry → Type 0
HasNeighbours grays w g es = (k : ℕ) × (a : Entry) × (b : Entry) × (slice_get es k ≡ Some a) × (slice_get es (suc k) ≡ Some b) × AreTwo grays w g a b

module _ (grays : List GrayReg) (w g : ℕ) where
  beside : (es : List Entry) → IsSorted order.ghosts.cmp es → (i j : ℕ) (a b : Entry) → i < j → slice_get es i ≡ Some a → slice_get es j ≡ Some b → AreTwo grays w g a b → HasNeighbours grays w g es
  beside es sorted i j a b l e f h =
      let m = slice_get_within es j b f in
      let c = get_or es (suc i) a in
      let at : slice_get es (suc i) ≡ Some c = slice_get-get_or es (suc i) a (omega arith) in
      let k = between a c b (h.one_word ∙ sym h.other_word) (h.one_group ∙ sym h.other_group) (in_order es sorted i (suc i) a c (omega arith) e at) (in_order es sorted (suc i) j c b (omega arith) at f) in (
        i,
        a,
        c,
        e,
        at,
        record {
          one_word = h.one_word;
          other_word = k.0 ∙ h.one_word;
          one_group = h.one_group;
          other_group = k.1 ∙ h.one_group;
          one = elim h.one [ inl same ↦ inl (sym (k.2 same)) | inr no_code ↦ inr no_code ];
        },
      )

  pub neighbours : (es : List Entry) → IsSorted order.ghosts.cmp es → HasTwo grays w g es → HasNeighbours grays w g es
  neighbours es sorted (i, j, a, b, ne, e, f, h) = elim (cases_lt i j) [
    | inl l ↦ beside es sorted i j a b l e f h
    | inr l ↦ elim (cases_lt j i) [
      | inl m ↦ beside es sorted j i b a m f e (turned grays w g a b h)
      | inr m ↦ absurd (ne (omega arith))
    ]
  ]

-- ---- entries in another order

-- the place to which a swap of two others takes a place
turn : ℕ → ℕ → ℕ → ℕ
turn i j p = cond (p == i) j (cond (p == j) i p)

first_place : (i j p : ℕ) → p ≡ i → turn i j p ≡ j
unfolding turn
first_place i j p e = ap (λ v. cond v j (cond (p == j) i p)) (eq-eqb p i e)

other_place : (i j p : ℕ) → p ≢ i → p ≡ j → turn i j p ≡ i
unfolding turn
other_place i j p n e = ap (λ v. cond v j (cond (p == j) i p)) (false_from_ne_true (p == i) (λ h. n (eqb-true p i h))) ∙ ap (λ v. cond v i p) (eq-eqb p j e)

no_place : (i j p : ℕ) → p ≢ i → p ≢ j → turn i j p ≡ p
unfolding turn
no_place i j p n m = ap (λ v. cond v j (cond (p == j) i p)) (false_from_ne_true (p == i) (λ h. n (eqb-true p i h))) ∙ ap (λ v. cond v i p) (false_from_ne_true (p == j) (λ h. m (eqb-true p j h)))

turn_back : (i j p : ℕ) → turn i j (turn i j p) ≡ p
turn_back i j p = elim (cases_eq p i) [
  | inl e ↦ elim (cases_eq j i) [
    | inl f ↦ ap (turn i j) (first_place i j p e) ∙ first_place i j j f ∙ f ∙ sym e
    | inr n ↦ ap (turn i j) (first_place i j p e) ∙ other_place i j j n refl ∙ sym e
  ]
  | inr n ↦ elim (cases_eq p j) [
    | inl e ↦ ap (turn i j) (other_place i j p n e) ∙ first_place i j i refl ∙ sym e
    | inr m ↦ ap (turn i j) (no_place i j p n m) ∙ no_place i j p n m
  ]
]

moved : (es : List Entry) (i j p : ℕ) (x : Entry) → i < length es → j < length es → slice_get es p ≡ Some x → slice_get (swap es i j) (turn i j p) ≡ Some x
moved es i j p x l m e = elim (cases_eq p i) [
  | inl f ↦ ap (slice_get (swap es i j)) (first_place i j p f) ∙ at j m (s.1 ∙ ap (λ k. get_or es k x) (sym f) ∙ own)
  | inr n ↦ elim (cases_eq p j) [
    | inl f ↦ ap (slice_get (swap es i j)) (other_place i j p n f) ∙ at i l (s.0 ∙ ap (λ k. get_or es k x) (sym f) ∙ own)
    | inr o ↦ ap (slice_get (swap es i j)) (no_place i j p n o) ∙ at p (slice_get_within es p x e) (s.2 p n o ∙ own)
  ]
]
  where
    own : get_or es p x ≡ x
    own = get_or_from_slice_get es p x x e

    s : (get_or (swap es i j) i x ≡ get_or es j x) × (get_or (swap es i j) j x ≡ get_or es i x) × ((k : ℕ) → (k ≡ i → ⊥) → (k ≡ j → ⊥) → get_or (swap es i j) k x ≡ get_or es k x)
    s = swapped_from_swap es (swap es i j) i j x l m refl

    at : (k : ℕ) → k < length es → get_or (swap es i j) k x ≡ x → slice_get (swap es i j) k ≡ Some x
    at k n f = slice_get-get_or (swap es i j) k x (let c = length-swap es i j in omega arith) ∙ ap Some f

two_kept : (grays : List GrayReg) (w g : ℕ) (es fs : List Entry) → IsPermutation es fs → HasTwo grays w g es → HasTwo grays w g fs
two_kept grays w g es fs perm h = IsPermutation-keeps es (HasTwo grays w g) h step fs perm
  where
    step : (xs : List Entry) (i j : ℕ) → i < length xs → j < length xs → HasTwo grays w g xs → HasTwo grays w g (swap xs i j)
    step xs i j l m (p, q, a, b, ne, e, f, k) = (
      turn i j p,
      turn i j q,
      a,
      b,
      (λ same. ne (sym (turn_back i j p) ∙ ap (turn i j) same ∙ turn_back i j q)),
      moved xs i j p a l m e,
      moved xs i j q b l m f,
      k,
    )

-- ---- synchronizers

-- the bits of both numbers
same_bit : (a b : Bit) → a.sig ≡ b.sig → a.at ≡ b.at → a ≡ b
same_bit a b e f = ap₂ (λ (x y : ℕ). let c : Bit = record { sig = x; at = y } in c) e f

module _ (net : Net) (domains : Domains) (is_gray : GrayReg → Bool) (fit : Fit net domains) (grays : List GrayReg) where
  abbrev key : Sync → Entry
  key s = entry_with s.from (unwrap_or (group_of domains s.first) 0)

  module _ (ss : List Sync) (are : AreSyncs (design_of net domains) (net_trees net is_gray) ss) where
    first_group : (s : Sync) → Contains ss s → (g : ℕ) × (group_of domains s.first ≡ Some g) × (group (design_of net domains) s.first ≡ Some g)
    first_group s i =
        let crossing = (are s i).crossing in
        let c = async_clock (design_of net domains) s.from s.first crossing.async in
        let within : is_within net s.first ≡ true = (and_parts (is_some (next_cell net.regs s.first.sig)) (is_within net s.first) crossing.register).1 in
        let has : group (design_of net domains) s.first ≡ Some ((design_of net domains).group_of c.0) = ap (option_map (design_of net domains).group_of) c.1 in
        ((design_of net domains).group_of c.0, sym (group_is net domains fit s.first within) ∙ has, has)

    key_group : (s : Sync) → Contains ss s → (g : ℕ) → group (design_of net domains) s.first ≡ Some g → (key s).group ≡ g
    key_group s i g e =
        let k = first_group s i in
        ap (λ o. unwrap_or o 0) k.1 ∙ same_number k.0 g (sym k.2 ∙ e)
      where
        same_number : (m n : ℕ) → Some m ≡ Some n → m ≡ n
        same_number m n h = cc

    entry_is : (s : Sync) → Contains ss s → entry_there (entry_of domains (sync_entry s)) ≡ key s ∷ []
    entry_is s i =
        let k = first_group s i in
        ap (λ o. entry_there (option_map (entry_with s.from) o)) k.1 ∙ ap (λ o. entry_with s.from (unwrap_or o 0) ∷ []) (sym k.1)

    entries_are : (xs : List Sync) → ((s : Sync) → Contains xs s → Contains ss s) → entries_of domains (map sync_entry xs) ≡ map key xs
    entries_are [] in_all = refl
    entries_are (x ∷ xs) in_all = ap₂ (λ us vs. us ++ vs) (entry_is x (in_all x (here x xs))) (entries_are xs (λ s i. in_all s (later x xs s i)))

    -- two synchronizers that lead from the word into the group are two such entries
    to_two : (w g : ℕ) → Meet (design_of net domains) ss grays w g → HasTwo grays w g (map key ss)
    to_two w g (i, j, s, r, l, e, f, one_word, other_word, one_group, other_group, one) = (
      i,
      j,
      key s,
      key r,
      (λ same. let k : i ≡ j = same in absurd (omega arith)),
      slice_get-map key ss i ∙ ap (option_map key) e,
      slice_get-map key ss j ∙ ap (option_map key) f,
      record {
        one_word = one_word;
        other_word = other_word;
        one_group = key_group s (slice_in ss i s e) g one_group;
        other_group = key_group r (slice_in ss j r f) g other_group;
        one = elim one [
          | inl same ↦ inl (ap (λ (b : Bit). b.at) same)
          | inr none ↦ inr (false_from_ne_true (is_code grays w) (λ h. let y = from_map code grays w (code_in grays w h) in none y.0 y.1 y.2))
        ];
      },
    )

    item_of : (i : ℕ) (a : Entry) → slice_get (map key ss) i ≡ Some a → (s : Sync) × (slice_get ss i ≡ Some s) × (key s ≡ a)
    item_of i a h = go (slice_get ss i) refl (sym (slice_get-map key ss i) ∙ h)
      where
        go : (o : Option Sync) → slice_get ss i ≡ o → option_map key o ≡ Some a → (s : Sync) × (slice_get ss i ≡ Some s) × (key s ≡ a)
        go None e k = cc
        go (Some s) e k = (s, e, (cc))

    group_back : (s : Sync) → Contains ss s → (a : Entry) (g : ℕ) → key s ≡ a → a.group ≡ g → group (design_of net domains) s.first ≡ Some g
    group_back s i a g e f =
        let k = first_group s i in
        k.2 ∙ ap Some (sym (key_group s i k.0 k.2) ∙ ap (λ (x : Entry). x.group) e ∙ f)

    in_places : (w g i j : ℕ) (a b : Entry) → i < j → slice_get (map key ss) i ≡ Some a → slice_get (map key ss) j ≡ Some b → AreTwo grays w g a b → Meet (design_of net domains) ss grays w g
    in_places w g i j a b l e f h =
        let s = item_of i a e in
        let r = item_of j b f in
        let one_word : s.0.from.sig ≡ w = ap (λ (x : Entry). x.word) s.2 ∙ h.one_word in
        let other_word : r.0.from.sig ≡ w = ap (λ (x : Entry). x.word) r.2 ∙ h.other_word in (
          i,
          j,
          s.0,
          r.0,
          l,
          s.1,
          r.1,
          one_word,
          other_word,
          group_back s.0 (slice_in ss i s.0 s.1) a g s.2 h.one_group,
          group_back r.0 (slice_in ss j r.0 r.1) b g r.2 h.other_group,
          elim h.one [
            | inl same ↦ inl (same_bit s.0.from r.0.from (one_word ∙ sym other_word) (ap (λ (x : Entry). x.at) s.2 ∙ same ∙ ap (λ (x : Entry). x.at) (sym r.2)))
            | inr no_code ↦ inr (λ y k m. never (sym (in_code grays w (subst (Contains (map code grays)) m (in_map code grays y k))) ∙ no_code))
          ],
        )

    from_two : (w g : ℕ) → HasTwo grays w g (map key ss) → Meet (design_of net domains) ss grays w g
    from_two w g (i, j, a, b, ne, e, f, h) = elim (cases_lt i j) [
      | inl l ↦ in_places w g i j a b l e f h
      | inr l ↦ elim (cases_lt j i) [
        | inl m ↦ in_places w g j i b a m f e (turned grays w g a b h)
        | inr m ↦ absurd (ne (omega arith))
      ]
    ]

    module _ (entries : List SyncEntry) (same : entries ≡ map sync_entry ss) (es : List Entry) (perm : IsPermutation (entries_of domains entries) es) (sorted : IsSorted order.ghosts.cmp es) where
      listed : IsPermutation (map key ss) es
      listed = subst (λ xs. IsPermutation xs es) (ap (entries_of domains) same ∙ entries_are ss (λ s i. i)) perm

      meeting_neighbours : (w g : ℕ) → Meet (design_of net domains) ss grays w g → HasNeighbours grays w g es
      meeting_neighbours w g m = neighbours grays w g es sorted (two_kept grays w g (map key ss) es listed (to_two w g m))

      neighbours_meet : (w g : ℕ) → HasNeighbours grays w g es → Meet (design_of net domains) ss grays w g
      neighbours_meet w g (k, a, b, e, f, h) =
          from_two w g (two_kept grays w g es (map key ss) (IsPermutation-sym (map key ss) es listed) (k, suc k, a, b, (λ n. let m : k ≡ suc k = n in absurd (omega arith)), e, f, h))

      -- a word and group whose key is less has no two entries behind these
      not_behind : (v h w g : ℕ) (a c : Entry) → a.word ≡ w → a.group ≡ g → c.word ≡ v → c.group ≡ h → is_before (v ∷ h ∷ []) (w ∷ g ∷ []) ≡ true → AreInOrder a c → ⊥
      not_behind v h w g a c p q r s before (inl l) = elim (or_cases (nat_lt v w) ((v == w) && is_before (h ∷ []) (g ∷ [])) before) [
        | inl m ↦ let n = ltb-true v w m in absurd (omega arith)
        | inr m ↦ let n = eqb-true v w (and_parts (v == w) (is_before (h ∷ []) (g ∷ [])) m).0 in absurd (omega arith)
      ]
      not_behind v h w g a c p q r s before (inr k) = elim (or_cases (nat_lt v w) ((v == w) && is_before (h ∷ []) (g ∷ [])) before) [
        | inl m ↦ let n = ltb-true v w m in let l = k.0 in absurd (omega arith)
        | inr m ↦ elim (or_cases (nat_lt h g) ((h == g) && is_before [] []) (and_parts (v == w) (is_before (h ∷ []) (g ∷ [])) m).1) [
          | inl n ↦ later_group (ltb-true h g n) k.1
          | inr n ↦ never (sym (and_parts (h == g) (is_before [] []) n).1)
        ]
      ]
        where
          later_group : h < g → (a.group < c.group) ⊎ ((a.group ≡ c.group) × (a.at ≤ c.at)) → ⊥
          later_group l (inl m) = omega arith
          later_group l (inr m) = let n = m.0 in omega arith

      -- the first neighbours that meet give the first word and group that do
      pub found_meeting : (o : Option (ℕ × ℕ)) → IsFirstPair grays es o → IsFoundMeeting (design_of net domains) ss grays o
      found_meeting None none = λ w g m.
          let k = meeting_neighbours w g m in
          never (sym (two_meet grays w g k.1 k.2 k.5) ∙ none k.0 k.1 k.2 k.3 k.4)
      found_meeting (Some p) (k, a, b, e, f, m, word, group, before) = record {
        meet = subst (λ w. Meet (design_of net domains) ss grays w p.1) (sym word)
            (subst (λ g. Meet (design_of net domains) ss grays a.word g) (sym group) (neighbours_meet a.word a.group (k, a, b, e, f, meet_two grays a b m)));
        first = λ v h less n.
            let q = meeting_neighbours v h n in
            elim (cases_lt q.0 k) [
              | inl l ↦ never (sym (two_meet grays v h q.1 q.2 q.5) ∙ before q.0 q.1 q.2 l q.3 q.4)
              | inr l ↦ not_behind v h p.0 p.1 a q.1 (sym word) (sym group) q.5.one_word q.5.one_group less (in_order es sorted k q.0 a q.1 l e q.3)
            ];
      }
