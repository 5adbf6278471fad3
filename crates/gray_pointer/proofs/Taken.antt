-- The walk over the words that a register takes.
use Rattle.std.proofs.Common.{◌≡◌, ◌∙◌, ◌++◌, sym, subst, inl, inr, ◌⊎◌, ℕ, ◌≤◌, List, [], ◌∷◌, Contains, Bool, true, Some, None}
use Rattle.std.proofs.lemmas.List.Elements.{Contains-push, Contains-push_cases, Contains-append_left}
use Rattle.cell_graph.specs.declared.cell.CellId.{CellId}
use Rattle.cell_graph.specs.Cells.{Cells}
use Rattle.cell_graph.specs.Tree.{Var, Mux}
use Rattle.cell_graph.specs.Unfolded.{tree_of}
use Rattle.cdc_model.specs.Word.{own_word}
use Rattle.cdc_model.proofs.Ascending.{nothing_in}
use Rattle.gray_pointer.specs.declared.register.Register.{Register}
use Rattle.gray_pointer.specs.declared.word.Choice.{Choice}
use Rattle.gray_pointer.specs.Taken.{IsTaken, Next, First, Second, IsChange, StaysAmong, AreTakenSoFar}
use Rattle.gray_pointer.specs.Words.{IsPlain, word_of, HasWord, IsChoice}
use Rattle.gray_pointer.specs.Worklists.{Adds}
use Rattle.gray_pointer.proofs.Adding.{IsOneOf, two_added, still_met, still_waits, still_within, first_met, second_met}
use Rattle.gray_pointer.proofs.Bits.{cells_tell}
use Rattle.gray_pointer.proofs.Trees.{same_trees}

-- a word is one choice
one_choice : (g : Cells) → IsPlain g → (x : CellId) (w : ℕ) → 1 ≤ w → (a b : Choice) → IsChoice g x w (Some a) → IsChoice g x w (Some b) → (a.yes ≡ b.yes) × (a.other ≡ b.other)
one_choice g plain x w l a b h k =
    let e : Mux h.0.0 (tree_of g a.yes) (tree_of g a.other) ≡ Mux k.0.0 (tree_of g b.yes) (tree_of g b.other) =
    cells_tell (Mux h.0.0 (tree_of g a.yes) (tree_of g a.other)) (Mux k.0.0 (tree_of g b.yes) (tree_of g b.other)) w l (sym h.0.1 ∙ k.0.1) in
    let yes_same : tree_of g a.yes ≡ tree_of g b.yes = cc in
    let other_same : tree_of g a.other ≡ tree_of g b.other = cc in
    (same_trees g plain a.yes b.yes h.2.0 k.2.0 yes_same, same_trees g plain a.other b.other h.3.0 k.3.0 other_same)

-- a choice isn't the register's own word
pub choice_not_own : (g : Cells) (x : CellId) (sig w : ℕ) → 1 ≤ w → (b : Choice) → IsChoice g x w (Some b) → word_of g x w ≡ own_word sig w → ⊥
choice_not_own g x sig w l b h e =
    let f : Mux h.0.0 (tree_of g b.yes) (tree_of g b.other) ≡ Var sig w = cells_tell (Mux h.0.0 (tree_of g b.yes) (tree_of g b.other)) (Var sig w) w l (sym h.0.1 ∙ e) in cc

module _ (g : Cells) (r : Register) where
  pub begin : (eq : CellId → CellId → Bool) → ((a b : CellId) → eq a b ≡ true → a ≡ b) → (met left met_then left_then : List CellId) → met ≡ [] → left ≡ [] → HasWord g r.next r.width
      → Adds eq r.next met left met_then left_then → AreTakenSoFar g r met_then left_then
  begin eq tells met left met_then left_then no_met no_left has a = record {
    words = λ x i. subst (λ z. HasWord g z r.width) (sym (only x (a.added x i)).1) has;
    taken = λ x i. subst (IsTaken g r.width r.next) (sym (only x (a.added x i)).1) Next;
    within = λ x i. within x (a.only x i);
    there = let (z, i, s) = a.there in subst (Contains met_then) (sym (tells r.next z s)) i;
    done = λ x i. inl (only x (a.added x i)).0;
  }
    where
      only : (x : CellId) → Contains met x ⊎ (Contains left_then x × (x ≡ r.next)) → Contains left_then x × (x ≡ r.next)
      only x (inl i) = absurd (nothing_in x (subst (λ (l : List CellId). Contains l x) no_met i))
      only x (inr i) = i

      within : (x : CellId) → Contains left x ⊎ Contains met_then x → Contains met_then x
      within x (inl i) = absurd (nothing_in x (subst (λ (l : List CellId). Contains l x) no_left i))
      within x (inr i) = i

-- one word is taken
module _ {g : Cells} {r : Register} {met left : List CellId} (left_then : List CellId) (x : CellId) (e : left ≡ left_then ++ x ∷ []) (so : AreTakenSoFar g r met left) where
  pub taken_met : Contains met x
  taken_met = so.within x (subst (λ (l : List CellId). Contains l x) (sym e) (Contains-push left_then x))

  within_then : (y : CellId) → Contains left_then y → Contains met y
  within_then y i = so.within y (subst (λ (l : List CellId). Contains l y) (sym e) (Contains-append_left left_then (x ∷ []) y i))

  -- the word is the register's own
  pub own_taken : word_of g x r.width ≡ own_word r.sig r.width → AreTakenSoFar g r met left_then
  own_taken own = record {
    words = so.words;
    taken = so.taken;
    within = within_then;
    there = so.there;
    done = λ y i. done y (so.done y i);
  }
    where
      last : (y : CellId) → Contains left_then y ⊎ (x ≡ y) → Contains left_then y ⊎ StaysAmong g r met y
      last y (inl i) = inl i
      last y (inr s) = inr (subst (StaysAmong g r met) s (inl own))

      done : (y : CellId) → Contains left y ⊎ StaysAmong g r met y → Contains left_then y ⊎ StaysAmong g r met y
      done y (inl i) = last y (Contains-push_cases left_then x y (subst (λ (l : List CellId). Contains l y) e i))
      done y (inr s) = inr s

  -- it is a choice, whose branches are added
  module _ {eq : CellId → CellId → Bool} {met_one left_one met_two left_two : List CellId} (tells : (a b : CellId) → eq a b ≡ true → a ≡ b) (b : Choice) (is : IsChoice g x r.width (Some b))
      (one : Adds eq b.yes met left_then met_one left_one) (two : Adds eq b.other met_one left_one met_two left_two) where
    one_of : (y : CellId) → Contains met_two y → IsOneOf met left_two b.yes b.other y
    one_of = two_added eq b.yes b.other met left_then met_one left_one met_two left_two one two

    still : (y : CellId) → Contains met y → Contains met_two y
    still = still_met eq b.yes b.other met left_then met_one left_one met_two left_two one two

    now : StaysAmong g r met_two x
    now = inr (
      b,
      is,
      first_met eq b.yes b.other met left_then met_one left_one met_two left_two one two tells,
      second_met eq b.yes b.other met left_then met_one left_one met_two left_two one two tells,
    )

    later_on : (y : CellId) → StaysAmong g r met y → StaysAmong g r met_two y
    later_on y (inl own) = inl own
    later_on y (inr (d, k, i, j)) = inr (d, k, still d.yes i, still d.other j)

    last : (y : CellId) → Contains left_then y ⊎ (x ≡ y) → Contains left_two y ⊎ StaysAmong g r met_two y
    last y (inl i) = inl (still_waits eq b.yes b.other met left_then met_one left_one met_two left_two one two y i)
    last y (inr s) = inr (subst (StaysAmong g r met_two) s now)

    before : (y : CellId) → Contains left y ⊎ StaysAmong g r met y → Contains left_two y ⊎ StaysAmong g r met_two y
    before y (inl i) = last y (Contains-push_cases left_then x y (subst (λ (l : List CellId). Contains l y) e i))
    before y (inr s) = inr (later_on y s)

    done : (y : CellId) → IsOneOf met left_two b.yes b.other y → Contains left_two y ⊎ StaysAmong g r met_two y
    done y (inl i) = before y (so.done y i)
    done y (inr i) = inl i.0

    words : (y : CellId) → IsOneOf met left_two b.yes b.other y → HasWord g y r.width
    words y (inl i) = so.words y i
    words y (inr (i, inl s)) = subst (λ z. HasWord g z r.width) (sym s) is.2
    words y (inr (i, inr s)) = subst (λ z. HasWord g z r.width) (sym s) is.3

    taken : (y : CellId) → IsOneOf met left_two b.yes b.other y → IsTaken g r.width r.next y
    taken y (inl i) = so.taken y i
    taken y (inr (i, inl s)) = subst (IsTaken g r.width r.next) (sym s) (First x b (so.taken x taken_met) is)
    taken y (inr (i, inr s)) = subst (IsTaken g r.width r.next) (sym s) (Second x b (so.taken x taken_met) is)

    pub branches_taken : AreTakenSoFar g r met_two left_two
    branches_taken = record {
      words = λ y i. words y (one_of y i);
      taken = λ y i. taken y (one_of y i);
      within = still_within eq b.yes b.other met left_then met_one left_one met_two left_two one two within_then;
      there = still r.next so.there;
      done = λ y i. done y (one_of y i);
    }

-- nothing is left
module _ {g : Cells} {r : Register} {met : List CellId} (plain : IsPlain g) (so : AreTakenSoFar g r met []) where
  stays : (x : CellId) → Contains met x → StaysAmong g r met x
  stays x i = elim (so.done x i) [ inl j ↦ absurd (nothing_in x j) | inr s ↦ s ]

  branches_met : (x : CellId) → Contains met x → (b : Choice) → IsChoice g x r.width (Some b) → Contains met b.yes × Contains met b.other
  branches_met x i b is = go (stays x i)
    where
      go : StaysAmong g r met x → Contains met b.yes × Contains met b.other
      go (inl own) = absurd (choice_not_own g x r.sig r.width (so.words x i).1 b is own)
      go (inr (d, k, m, n)) =
          let same = one_choice g plain x r.width (so.words x i).1 d b k is in
          (subst (Contains met) same.0 m, subst (Contains met) same.1 n)

  all_met : (x : CellId) → IsTaken g r.width r.next x → Contains met x
  all_met x Next = so.there
  all_met x (First y b t is) = (branches_met y (all_met y t) b is).0
  all_met x (Second y b t is) = (branches_met y (all_met y t) b is).1

  pub no_change : IsChange g r None
  no_change x t = elim (stays x (all_met x t)) [ inl own ↦ inl own | inr k ↦ inr (k.0, k.1) ]
