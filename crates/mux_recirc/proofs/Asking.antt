-- Questions bit by bit.
use Rattle.std.proofs.Common.{◌≡◌, ◌∙◌, ◌⊎◌, ◌↔◌, refl, sym, ap, subst, ℕ, ◌≤◌, List, [], ◌++◌, length, Contains}
use Rattle.cdc_base.specs.declared.bit.Bit.{Bit}
use Rattle.cell_graph.specs.declared.net.Net.{Net}
use Rattle.cdc_model.specs.Found.{bits_read_by}
use Rattle.cdc_model.proofs.Ascending.{in_map, from_map}
use Rattle.mux_recirc.specs.declared.parts.Part.{Part}
use Rattle.mux_recirc.specs.declared.questions.Question.{Question}
use Rattle.mux_recirc.specs.Parts.{rings_among}
use Rattle.mux_recirc.specs.Questions.{asked_on, IsAskedOf, IsAsked}
use Rattle.mux_recirc.proofs.Added.{HasItemWithin, in_joined, same_left, items_all, all_added, both_iff}

abbrev question : Bit → ℕ → Question
question b n = record { ring = n; bit = b }

in_asked : (rings : List ℕ) (b : Bit) (q : Question) → Contains (asked_on rings b) q ↔ ((q.bit ≡ b) × Contains rings q.ring)
in_asked rings b q = (
  λ i.
      let k = from_map (question b) rings q i in
      (sym (ap (λ (p : Question). p.bit) k.2), subst (Contains rings) (ap (λ (p : Question). p.ring) k.2) k.1),
  λ h. subst (λ (a : Bit). Contains (asked_on rings a) q) h.0 (in_map (question q.bit) rings q.ring h.1),
)

module _ (net : Net) (parts : List Part) where
  -- the questions of one bit more
  pub asked_more : (b : Bit) (slice reads : List Bit) (rings numbers : List ℕ) (old new : List Question) → slice ≡ reads → reads ≡ bits_read_by net [] b → numbers ≡ rings
      → ((n : ℕ) → Contains rings n ↔ Contains (rings_among parts slice) n) → new ≡ old ++ asked_on numbers b → (q : Question) → Contains new q ↔ (Contains old q ⊎ IsAskedOf net parts b q)
  asked_more b slice reads rings numbers old new e f g all n q =
      let same = ap (rings_among parts) (e ∙ f) in
      let own : Contains rings q.ring ↔ Contains (rings_among parts (bits_read_by net [] b)) q.ring = subst (λ xs. Contains rings q.ring ↔ Contains xs q.ring) same (all q.ring) in
      same_left (in_joined old (asked_on numbers b) new q n) (IsAskedOf net parts b q) (
        λ i. let k = (in_asked numbers b q).0 i in (k.0, own.0 (subst (λ xs. Contains xs q.ring) g k.1)),
        λ h. (in_asked numbers b q).1 (h.0, subst (λ xs. Contains xs q.ring) (sym g) (own.1 h.1)),
      )

  -- the questions of all bits
  pub asked_all : {A X : Type 0} (bits : List Bit) (n : ℕ) (q : Question) → length bits ≤ n → (A → ⊥) → X ↔ (A ⊎ HasItemWithin bits n (λ b. IsAskedOf net parts b q)) → X ↔ IsAsked net parts bits q
  asked_all bits n q l none f = both_iff (all_added none (items_all bits (λ b. IsAskedOf net parts b q) n l f)) (
    λ h. (
      subst (Contains bits) (sym h.2.0) h.1,
      subst (λ (b : Bit). Contains (rings_among parts (bits_read_by net [] b)) q.ring) (sym h.2.0) h.2.1,
    ),
    λ h. (q.bit, h.0, (refl, h.1)),
  )
