-- A register that never changes and holds the code of a counter: the counter never changes either, and both have one key.
use Rattle.std.proofs.Common.{◌≡◌, ◌∙◌, sym, ap, ap₂, refl, subst, inl, inr, ◌⊎◌, arith, ℕ, ◌≤◌, List, Option, Some, None, is_some, true}
use Rattle.cell_graph.specs.declared.cell.CellId.{CellId}
use Rattle.cell_graph.specs.Tree.{Tree, Var, Mux}
use Rattle.cell_graph.specs.Cells.{Cells}
use Rattle.cell_graph.specs.Origin.{TreeBit}
use Rattle.cdc_model.specs.declared.scheme.Shape.{Shape}
use Rattle.cdc_model.specs.declared.scheme.Shape.TheVariants.{G1, G2, G3}
use Rattle.cdc_model.specs.GrayShape.{HasShape}
use Rattle.cdc_model.specs.Word.{cells, own_word, IsGrayWord, IsJoint, Coded}
use Rattle.gray_pointer.specs.Counters.{IsIdle, HasForm, IsKey}
use Rattle.gray_pointer.specs.declared.candidates.Form.{Form}
use Rattle.gray_pointer.specs.declared.candidates.Form.TheVariants as form
use Rattle.gray_pointer.specs.declared.candidates.Key.{Key}
use Rattle.gray_pointer.specs.declared.register.Register.{Register}
use Rattle.gray_pointer.specs.declared.word.Choice.{Choice}
use Rattle.gray_pointer.specs.Taken.{IsTaken, Next, First, Second, Stays, IsChange}
use Rattle.gray_pointer.specs.Words.{IsPlain, word_of, IsChoice}
use Rattle.gray_pointer.proofs.Bits.{cells_tell}
use Rattle.gray_pointer.proofs.Changes.{code_not_own, code_no_choice, split}
use Rattle.gray_pointer.proofs.Joints.{IsBoth, joint_cases}
use Rattle.gray_pointer.proofs.Taken.{choice_not_own}

-- a register that changes is not idle
pub not_idle : (g : Cells) (r : Register) (o : Option CellId) → is_some o ≡ true → IsChange g r o → IsIdle g r → ⊥
not_idle g r None t h idle = cc
not_idle g r (Some x) t h idle = idle x h

mux_not_own : (c x y : Tree) (sig w : ℕ) → 1 ≤ w → cells (Mux c x y) 0 w ≡ own_word sig w → ⊥
mux_not_own c x y sig w l e = let f : Mux c x y ≡ Var sig w = cells_tell (Mux c x y) (Var sig w) w l e in cc

module _ (g : Cells) (plain : IsPlain g) (b : ℕ) (gray : Register) (two : 2 ≤ gray.width) (idle : IsChange g gray None) where
  one : 1 ≤ gray.width
  one = omega arith

  abbrev word : CellId → List TreeBit
  word x = word_of g x gray.width

  abbrev IsTakenByGray : CellId → Type 0
  IsTakenByGray y = IsTaken g gray.width gray.next y

  abbrev BothStay : List TreeBit → List TreeBit → Type 0
  BothStay n m = (n ≡ own_word b gray.width) × (m ≡ own_word gray.sig gray.width)

  abbrev AreJoint : List TreeBit → List TreeBit → Type 0
  AreJoint n m = IsJoint b gray.sig gray.width n m

  -- what it takes is no Gray code
  no_code : (y : CellId) (n : List TreeBit) → IsTakenByGray y → IsGrayWord (word y) n → ⊥
  no_code y n t h = go (idle y t)
    where
      go : Stays g gray y → ⊥
      go (inl own) = code_not_own (word y) n gray.sig gray.width two h own
      go (inr (q, of)) = code_no_choice g y gray.width n two h q of

  -- in each shape the two next values are a joint pair
  pub idle_joint : (s : Shape) (n : List TreeBit) → HasShape s b gray.sig gray.width n (word gray.next) → AreJoint n (word gray.next)
  idle_joint G1 n h = Coded h.0 h.1
  idle_joint G2 n h = h.1
  idle_joint G3 n h = absurd (no_code gray.next (own_word b gray.width) Next h.3)

  -- both are own words, or both are choices
  stay_or_both : (n : List TreeBit) (y : CellId) → IsTakenByGray y → AreJoint n (word y) → BothStay n (word y) ⊎ IsBoth b gray.sig gray.width n (word y)
  stay_or_both n y t h = go (joint_cases b gray.sig gray.width n (word y) h)
    where
      go : IsGrayWord (word y) n ⊎ (BothStay n (word y) ⊎ IsBoth b gray.sig gray.width n (word y)) → BothStay n (word y) ⊎ IsBoth b gray.sig gray.width n (word y)
      go (inl k) = absurd (no_code y n t k)
      go (inr k) = k

  -- ---- the words of the counter

  -- the register takes a word that is one of a joint pair with this one
  abbrev HasPartner : CellId → Type 0
  HasPartner x = (y : CellId) × IsTakenByGray y × AreJoint (word x) (word y)

  -- a choice goes with a choice
  partner_choice : (x y : CellId) → IsTakenByGray y → AreJoint (word x) (word y) → (p : Choice) → IsChoice g x gray.width (Some p) → (q : Choice) × IsChoice g y gray.width (Some q)
  partner_choice x y t h p is = go (stay_or_both (word x) y t h) (idle y t)
    where
      go : BothStay (word x) (word y) ⊎ IsBoth b gray.sig gray.width (word x) (word y) → Stays g gray y → (q : Choice) × IsChoice g y gray.width (Some q)
      go (inl k) s = absurd (choice_not_own g x b gray.width one p is k.0)
      go (inr k) (inr s) = s
      go (inr (s, e, i, j, u, v, f, m, same, k, l)) (inl own) = absurd (mux_not_own e u v gray.sig gray.width one (sym m ∙ own))

  partner : (next : CellId) → AreJoint (word next) (word gray.next) → (x : CellId) → IsTaken g gray.width next x → HasPartner x
  partner next h x Next = (gray.next, Next, h)
  partner next h x (First z p t is) =
      let (y, taken, joint) = partner next h z t in
      let (q, of) = partner_choice z y taken joint p is in
      (q.yes, First y q taken of, (split g plain b gray.sig gray.width two z y joint p q is of).1)
  partner next h x (Second z p t is) =
      let (y, taken, joint) = partner next h z t in
      let (q, of) = partner_choice z y taken joint p is in
      (q.other, Second y q taken of, (split g plain b gray.sig gray.width two z y joint p q is of).2)

  -- so the counter never changes
  pub counter_idle : (count : Register) → count.sig ≡ b → count.width ≡ gray.width → AreJoint (word count.next) (word gray.next) → IsIdle g count
  counter_idle count sig wide h x (t, has, other, none) = go (partner count.next h x (subst (λ (w : ℕ). IsTaken g w count.next x) wide t))
    where
      go : HasPartner x → ⊥
      go (y, taken, joint) = elim (stay_or_both (word x) y taken joint) [
        | inl k ↦ other (subst (λ (w : ℕ). word_of g x w ≡ own_word count.sig w) (sym wide) (k.0 ∙ ap (λ (s : ℕ). own_word s gray.width) (sym sig)))
        | inr k ↦ none k.0 k.2 k.3 (subst (λ (w : ℕ). word_of g x w ≡ cells (Mux k.0 k.2 k.3) 0 w) (sym wide) k.6)
      ]

  -- ---- the keys

  same_form : (count : Register) → count.width ≡ gray.width → AreJoint (word count.next) (word gray.next) → (f h : Form) → HasForm g count f → HasForm g gray h → f ≡ h
  same_form count wide joint form.Own form.Own p q = refl
  same_form count wide joint form.Own (form.Choice d) p (q, of, e) = absurd (elim (stay_or_both (word count.next) gray.next Next joint) [
    | inl k ↦ choice_not_own g gray.next gray.sig gray.width one q of k.1
    | inr k ↦ p k.0 k.2 k.3 (subst (λ (w : ℕ). word_of g count.next w ≡ cells (Mux k.0 k.2 k.3) 0 w) (sym wide) k.6)
  ])
  same_form count wide joint (form.Choice c) form.Own (p, is, e) q = absurd (elim (stay_or_both (word count.next) gray.next Next joint) [
    | inl k ↦ choice_not_own g count.next b gray.width one p (subst (λ (w : ℕ). IsChoice g count.next w (Some p)) wide is) k.0
    | inr k ↦ q k.1 k.4 k.5 k.7
  ])
  same_form count wide joint (form.Choice c) (form.Choice d) (p, is, e) (q, of, f) =
      let s = split g plain b gray.sig gray.width two count.next gray.next joint p q (subst (λ (w : ℕ). IsChoice g count.next w (Some p)) wide is) of in
      ap form.Choice (sym e ∙ s.0 ∙ f)

  abbrev key : ℕ → ℕ → ℕ → Form → Key
  key clock width start form = record { clock = clock; width = width; start = start; form = form }

  pub same_key : (count : Register) → count.width ≡ gray.width → count.clock ≡ gray.clock → AreJoint (word count.next) (word gray.next) → (start : ℕ) (k l : Key) → IsKey g count start k → IsKey g gray start l
      → k ≡ l
  same_key count wide clock joint start k l p q =
      let e : k.clock ≡ l.clock = p.clock ∙ clock ∙ sym q.clock in
      let f : k.width ≡ l.width = p.width ∙ wide ∙ sym q.width in
      let h : k.start ≡ l.start = p.start ∙ sym q.start in
      let i : k.form ≡ l.form = same_form count wide joint k.form l.form p.form q.form in
      ap₂ (λ (c w : ℕ). key c w k.start k.form) e f ∙ ap₂ (key l.clock l.width) h i
