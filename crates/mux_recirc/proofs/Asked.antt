-- Questions on one ring, one by one.
use Rattle.std.proofs.Common.{◌⊎◌, ◌↔◌, ◌==◌, eqb-true, eq-eqb, arith, ◌≡◌, ◌∙◌, refl, sym, ap, ap₂, ℕ, ◌+◌, ◌-◌, ◌<◌, ◌≤◌, Bool, true, false, Some, List, [], ◌∷◌, ◌++◌, map, length, drop, get_or, slice_get, append_assoc, Contains, subst}
use Rattle.std.specs.Prelude.{filter, if◌then◌else◌}
use Rattle.std.proofs.lemmas.List.{drop_all, drop_more, append-nil}
use Rattle.std.proofs.lemmas.List.Elements.{Contains-get_or}
use Rattle.std.proofs.lemmas.Option.{slice_get-get_or, slice_get_within}
use Rattle.cdc_base.specs.declared.bit.Bit.{Bit}
use Rattle.cell_graph.specs.declared.net.Net.{Net}
use Rattle.cdc_model.specs.declared.scheme.Ring.{Ring as RingEntry}
use Rattle.cdc_model.proofs.Ascending.{in_map, from_map, in_filter, from_filter}
use Rattle.mux_recirc.specs.declared.questions.Question.{Question}
use Rattle.mux_recirc.specs.declared.parts.Part.{Part}
use Rattle.mux_recirc.specs.Held.{at_bits, keeps_between, keeps_in, part_asked, part_if, held_in, AreWithin, question_of, IsAnswered}
use Rattle.mux_recirc.specs.Questions.{questions_on}
use Rattle.mux_recirc.proofs.Added.{HasOneWithin, in_joined, same_left, same_item, all_added, both_iff}

module _ (net : Net) (e : RingEntry) where
  held_step : (q : Question) (qs : List Question) → held_in net e (q ∷ qs) ≡ part_if (keeps_in net e q.bit) q ++ held_in net e qs
  held_step q qs = go (keeps_in net e q.bit)
    where
      go : (v : Bool) → map part_asked (if v then q ∷ filter (λ (p : Question). keeps_in net e p.bit) qs else filter (λ (p : Question). keeps_in net e p.bit) qs) ≡ part_if v q ++ held_in net e qs
      go true = refl
      go false = refl

  -- one question more
  pub held_more : (all old new : List Part) (qs : List Question) (i : ℕ) (d : Question) → i < length qs → all ≡ old ++ held_in net e (drop i qs)
      → new ≡ old ++ part_if (keeps_in net e (get_or qs i d).bit) (get_or qs i d) → all ≡ new ++ held_in net e (drop (i + 1) qs)
  held_more all old new qs i d l h n =
      h ∙ ap (λ xs. old ++ held_in net e xs) (drop_more qs i d l)
      ∙ ap (λ xs. old ++ xs) (held_step (get_or qs i d) (drop (i + 1) qs))
      ∙ sym (append_assoc old (part_if (keeps_in net e (get_or qs i d).bit) (get_or qs i d)) (held_in net e (drop (i + 1) qs)))
      ∙ ap (λ xs. xs ++ held_in net e (drop (i + 1) qs)) (sym n)

  -- no question more
  pub held_end : (all pairs : List Part) (qs : List Question) (i : ℕ) → length qs ≤ i → all ≡ pairs ++ held_in net e (drop i qs) → pairs ≡ all
  held_end all pairs qs i l h = sym (h ∙ ap (λ xs. pairs ++ held_in net e xs) (drop_all i qs l) ∙ append-nil pairs)

  -- the ring's ends
  pub keeps_is : (request last b : Bit) → slice_get e.bits 0 ≡ Some request → slice_get e.bits (length e.bits - 1) ≡ Some last → keeps_between net request last b ≡ keeps_in net e b
  keeps_is request last b f l = sym (ap₂ (λ o p. at_bits o p (λ r m. keeps_between net r m b)) f l)

  -- a ring without bits holds nothing
  none_in : (qs : List Question) → ((test : Bit → Bit → Bool) → at_bits (slice_get e.bits 0) (slice_get e.bits (length e.bits - 1)) test ≡ false) → held_in net e qs ≡ []
  none_in [] h = refl
  none_in (q ∷ qs) h = held_step q qs ∙ ap (λ v. part_if v q ++ held_in net e qs) (h (λ r m. keeps_between net r m q.bit)) ∙ none_in qs h

  pub none_held : (pairs : List Part) (qs : List Question) → ((test : Bit → Bit → Bool) → at_bits (slice_get e.bits 0) (slice_get e.bits (length e.bits - 1)) test ≡ false) → pairs ≡ pairs ++ held_in net e qs
  none_held pairs qs h = sym (ap (λ xs. pairs ++ xs) (none_in qs h) ∙ append-nil pairs)

-- the question's bit is asked
pub bit_asked : (qs : List Question) (i : ℕ) (d : Question) (bits : List Bit) → i < length qs → bits ≡ map (λ (q : Question). q.bit) qs → Contains bits (get_or qs i d).bit
bit_asked qs i d bits l e = subst (λ xs. Contains xs (get_or qs i d).bit) (sym e) (in_map (λ (q : Question). q.bit) qs (get_or qs i d) (Contains-get_or qs i d l))

-- the item at a place
pub item_at : (xs ys : List Bit) → ys ≡ xs → (i j : ℕ) → j ≡ i → (x : Bit) → j < length ys → x ≡ get_or ys j x → slice_get xs i ≡ Some x
item_at xs ys same i j e x l at = ap₂ slice_get (sym same) (sym e) ∙ slice_get-get_or ys j x l ∙ ap Some (sym at)

-- ---- answers ring by ring

-- the ring with that number is asked about the part's bit, and holds it
abbrev pub IsAnsweredOn : Net → List RingEntry → List Question → ℕ → Part → Type 0
IsAnsweredOn net entries questions i p = (p.ring ≡ i) × Contains questions (question_of p) × ((e : RingEntry) × (slice_get entries i ≡ Some e) × (keeps_in net e p.bit ≡ true))

module _ (net : Net) (entries : List RingEntry) (questions : List Question) where
  -- the answers of one ring
  pub on_ring : (i : ℕ) (e : RingEntry) (here : List Question) (old new : List Part) → slice_get entries i ≡ Some e → here ≡ questions_on questions i → new ≡ old ++ held_in net e here
      → (p : Part) → Contains new p ↔ (Contains old p ⊎ IsAnsweredOn net entries questions i p)
  on_ring i e here old new at are n p = same_left (in_joined old (held_in net e here) new p n) (IsAnsweredOn net entries questions i p) (
    λ h.
        let k = from_map part_asked (filter (λ (q : Question). keeps_in net e q.bit) here) p h in
        let f = from_filter (λ (q : Question). keeps_in net e q.bit) here k.0 k.1 in
        let g = from_filter (λ (q : Question). q.ring == i) questions k.0 (subst (λ qs. Contains qs k.0) are f.0) in
        subst (IsAnsweredOn net entries questions i) k.2 (eqb-true k.0.ring i g.1, g.0, (e, at, f.1)),
    λ h.
        let q = question_of p in
        let same = same_item (slice_get entries i) h.2.0 e h.2.1 at in
        in_map part_asked (filter (λ (q : Question). keeps_in net e q.bit) here) q
        (in_filter (λ (q : Question). keeps_in net e q.bit) here q
        (subst (λ qs. Contains qs q) (sym are) (in_filter (λ (q : Question). q.ring == i) questions q h.1 (eq-eqb p.ring i h.0)))
        (subst (λ (f : RingEntry). keeps_in net f p.bit ≡ true) same h.2.2)),
  )

  -- the answers of all rings
  pub on_all : {A X : Type 0} (n : ℕ) (p : Part) → length entries ≤ n → (A → ⊥) → X ↔ (A ⊎ HasOneWithin 0 n (λ i. IsAnsweredOn net entries questions i p)) → X ↔ IsAnswered net entries questions p
  on_all n p l none f = both_iff (all_added none f) (
    λ h. let a = h.3 in (a.1, subst (λ i. (e : RingEntry) × (slice_get entries i ≡ Some e) × (keeps_in net e p.bit ≡ true)) (sym a.0) a.2),
    λ h. (p.ring, omega arith, (let m = slice_get_within entries p.ring h.1.0 h.1.1 in omega arith), (refl, h.0, h.1)),
  )

pub within_on : (net : Net) (qs : List Question) (n : ℕ) (here : List Question) → here ≡ questions_on qs n → AreWithin net qs → AreWithin net here
within_on net qs n here e within q i = within q (from_filter (λ (p : Question). p.ring == n) qs q (subst (λ xs. Contains xs q) e i)).0
