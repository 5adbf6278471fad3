-- The walk over the words that a counter may take.
use Rattle.std.proofs.Common.{◌≡◌, ◌∙◌, ◌↔◌, ◌++◌, sym, refl, subst, inl, inr, ◌⊎◌, arith, ℕ, zero, suc, ◌<◌, ◌≤◌, List, [], ◌∷◌, Contains, Bool, true, false, Some, None, eqb-true}
use Rattle.std.proofs.lemmas.List.Elements.{Contains-push, Contains-push_cases, Contains-append_left}
use Rattle.cell_graph.specs.contracts.cell.CellIdPartialEq.TheImpl as equality
use Rattle.cell_graph.specs.declared.cell.CellId.{CellId}
use Rattle.cell_graph.specs.Tree.{Tree, Mux}
use Rattle.cell_graph.specs.Cells.{Cells}
use Rattle.cell_graph.specs.Origin.{TreeBit}
use Rattle.cell_graph.specs.Unfolded.{tree_of}
use Rattle.cdc_model.specs.Word.{cells, origins, own_word, IsCount, Own, Plus, Choose}
use Rattle.gray_pointer.specs.declared.word.Choice.{Choice}
use Rattle.gray_pointer.specs.Shapes.{Counts, CountsAfter, AreCountsSoFar, AreAsked}
use Rattle.gray_pointer.specs.Words.{word_of, HasWord, IsChoice, IsPlus}
use Rattle.gray_pointer.specs.Worklists.{Adds}
use Rattle.gray_pointer.proofs.Adding.{IsOneOf, two_added, still_met, still_waits, still_within, first_met, second_met}
use Rattle.cdc_model.proofs.Ascending.{nothing_in}
use Rattle.cofactor.proofs.Places.{same-cell}
use Rattle.gray_pointer.proofs.Bits.{cells_tell}

-- ---- what a count word is

abbrev pub IsChosen : ℕ → ℕ → List TreeBit → Type 0
IsChosen sig w n = (c x y : Tree) × (n ≡ cells (Mux c x y) 0 w) × IsCount sig w (origins x 0 w) × IsCount sig w (origins y 0 w)

pub count_cases : (sig w : ℕ) (n : List TreeBit) → IsCount sig w n → (n ≡ own_word sig w) ⊎ (IsPlus sig w n ⊎ IsChosen sig w n)
count_cases sig w n Own = inl refl
count_cases sig w n (Plus a b k) = inr (inl (a, b, refl, k))
count_cases sig w n (Choose c x y h k) = inr (inr (c, x, y, refl, h, k))

pub own_count : (sig w : ℕ) (n : List TreeBit) → n ≡ own_word sig w → IsCount sig w n
own_count sig w n e = subst (IsCount sig w) (sym e) Own

pub plus_count : (sig w : ℕ) (n : List TreeBit) → IsPlus sig w n → IsCount sig w n
plus_count sig w n (a, b, e, k) = subst (IsCount sig w) (sym e) (Plus a b k)

pub chosen_count : (sig w : ℕ) (n : List TreeBit) (c x y : Tree) → n ≡ cells (Mux c x y) 0 w → IsCount sig w (origins x 0 w) → IsCount sig w (origins y 0 w) → IsCount sig w n
chosen_count sig w n c x y e h k = subst (IsCount sig w) (sym e) (Choose c x y h k)

module _ (g : Cells) (sig w : ℕ) (x : CellId) (other_own : word_of g x w ≡ own_word sig w → ⊥) (other_plus : IsPlus sig w (word_of g x w) → ⊥) where
  pub no_count : IsChoice g x w None → Counts g sig w x → ⊥
  no_count none k = go (count_cases sig w (word_of g x w) k)
    where
      go : (word_of g x w ≡ own_word sig w) ⊎ (IsPlus sig w (word_of g x w) ⊎ IsChosen sig w (word_of g x w)) → ⊥
      go (inl e) = other_own e
      go (inr (inl p)) = other_plus p
      go (inr (inr (c, y, z, e, h, i))) = none c y z e

  pub branches_count : 1 ≤ w → (b : Choice) → IsChoice g x w (Some b) → Counts g sig w x → Counts g sig w b.yes × Counts g sig w b.other
  branches_count l b is k = go (count_cases sig w (word_of g x w) k)
    where
      go : (word_of g x w ≡ own_word sig w) ⊎ (IsPlus sig w (word_of g x w) ⊎ IsChosen sig w (word_of g x w)) → Counts g sig w b.yes × Counts g sig w b.other
      go (inl e) = absurd (other_own e)
      go (inr (inl p)) = absurd (other_plus p)
      go (inr (inr (c, y, z, e, h, i))) =
          let same : Mux is.0.0 (tree_of g b.yes) (tree_of g b.other) ≡ Mux c y z = cells_tell (Mux is.0.0 (tree_of g b.yes) (tree_of g b.other)) (Mux c y z) w l (sym is.0.1 ∙ e) in
          let u : y ≡ tree_of g b.yes = cc in
          let v : z ≡ tree_of g b.other = cc in
          (subst (λ (t : Tree). IsCount sig w (origins t 0 w)) u h, subst (λ (t : Tree). IsCount sig w (origins t 0 w)) v i)

-- ---- worklists

module _ (g : Cells) (w : ℕ) where
  pub nothing_asked : AreAsked g w [] []
  nothing_asked = record { words = λ x h. absurd (nothing_in x h); within = λ x h. h; waits = λ x h. h }

  pub word_asked : (eq : CellId → CellId → Bool) (x : CellId) (met left met_then left_then : List CellId) → AreAsked g w met left → HasWord g x w → Adds eq x met left met_then left_then → AreAsked g w met_then left_then
  word_asked eq x met left met_then left_then asked has a = record {
    words = λ y h. words y (a.added y h);
    within = λ y h. within y (a.only y h);
    waits = λ y h. waits y (a.added y h);
  }
    where
      words : (y : CellId) → Contains met y ⊎ (Contains left_then y × (y ≡ x)) → HasWord g y w
      words y (inl h) = asked.words y h
      words y (inr h) = subst (λ z. HasWord g z w) (sym h.1) has

      within : (y : CellId) → Contains left y ⊎ Contains met_then y → Contains met_then y
      within y (inl h) = a.kept y (asked.within y h)
      within y (inr h) = h

      waits : (y : CellId) → Contains met y ⊎ (Contains left_then y × (y ≡ x)) → Contains left_then y
      waits y (inl h) = a.waits y (asked.waits y h)
      waits y (inr h) = h.0

module _ (g : Cells) (sig w : ℕ) (asked : List CellId) where
  pub first : (left : List CellId) → AreAsked g w asked left → AreCountsSoFar g sig w asked asked left
  first left a = record {
    words = a.words;
    within = a.within;
    kept = λ x h. h;
    done = λ x h. inl (a.waits x h);
    needed = λ all. all;
  }

-- one word is taken
module _ {g : Cells} {sig w : ℕ} {asked met left : List CellId} (left_then : List CellId) (x : CellId) (e : left ≡ left_then ++ x ∷ []) (so : AreCountsSoFar g sig w asked met left) where
  taken_met : Contains met x
  taken_met = so.within x (subst (λ (l : List CellId). Contains l x) (sym e) (Contains-push left_then x))

  pub taken_word : HasWord g x w
  taken_word = so.words x taken_met

  within_then : (y : CellId) → Contains left_then y → Contains met y
  within_then y h = so.within y (subst (λ (l : List CellId). Contains l y) (sym e) (Contains-append_left left_then (x ∷ []) y h))

  -- it is a count word
  pub settled : Counts g sig w x → AreCountsSoFar g sig w asked met left_then
  settled k = record {
    words = so.words;
    within = within_then;
    kept = so.kept;
    done = λ y h. done y (so.done y h);
    needed = so.needed;
  }
    where
      taken : (y : CellId) → Contains left_then y ⊎ (x ≡ y) → Contains left_then y ⊎ CountsAfter g sig w met y
      taken y (inl h) = inl h
      taken y (inr s) = inr (λ f. subst (Counts g sig w) s k)

      done : (y : CellId) → Contains left y ⊎ CountsAfter g sig w met y → Contains left_then y ⊎ CountsAfter g sig w met y
      done y (inl h) = taken y (Contains-push_cases left_then x y (subst (λ (l : List CellId). Contains l y) e h))
      done y (inr f) = inr f

  -- it is a choice, whose branches are added
  module _ {eq : CellId → CellId → Bool} {met_one left_one met_two left_two : List CellId} (tells : (a b : CellId) → eq a b ≡ true → a ≡ b) (l : 1 ≤ w)
      (other_own : word_of g x w ≡ own_word sig w → ⊥) (other_plus : IsPlus sig w (word_of g x w) → ⊥) (b : Choice) (is : IsChoice g x w (Some b))
      (one : Adds eq b.yes met left_then met_one left_one) (two : Adds eq b.other met_one left_one met_two left_two) where
    one_of : (y : CellId) → Contains met_two y → IsOneOf met left_two b.yes b.other y
    one_of = two_added eq b.yes b.other met left_then met_one left_one met_two left_two one two

    still : (y : CellId) → Contains met y → Contains met_two y
    still = still_met eq b.yes b.other met left_then met_one left_one met_two left_two one two

    chosen_now : CountsAfter g sig w met_two x
    chosen_now f = chosen_count sig w (word_of g x w) is.0.0 (tree_of g b.yes) (tree_of g b.other) is.0.1
        (f b.yes (first_met eq b.yes b.other met left_then met_one left_one met_two left_two one two tells) is.4)
        (f b.other (second_met eq b.yes b.other met left_then met_one left_one met_two left_two one two tells) is.5)

    waits_or_counts : (y : CellId) → Contains left y ⊎ CountsAfter g sig w met y → Contains left_two y ⊎ CountsAfter g sig w met_two y
    waits_or_counts y (inl h) = go (Contains-push_cases left_then x y (subst (λ (l : List CellId). Contains l y) e h))
      where
        go : Contains left_then y ⊎ (x ≡ y) → Contains left_two y ⊎ CountsAfter g sig w met_two y
        go (inl k) = inl (still_waits eq b.yes b.other met left_then met_one left_one met_two left_two one two y k)
        go (inr s) = inr (subst (CountsAfter g sig w met_two) s chosen_now)
    waits_or_counts y (inr f) = inr (λ p. f (λ z h k. p z (still z h) k))

    done : (y : CellId) → IsOneOf met left_two b.yes b.other y → Contains left_two y ⊎ CountsAfter g sig w met_two y
    done y (inl h) = waits_or_counts y (so.done y h)
    done y (inr h) = inl h.0

    words : (y : CellId) → IsOneOf met left_two b.yes b.other y → HasWord g y w
    words y (inl h) = so.words y h
    words y (inr (h, inl s)) = subst (λ z. HasWord g z w) (sym s) is.2
    words y (inr (h, inr s)) = subst (λ z. HasWord g z w) (sym s) is.3

    needed : ((y : CellId) → Contains asked y → Counts g sig w y) → (y : CellId) → IsOneOf met left_two b.yes b.other y → Counts g sig w y
    needed all y (inl h) = so.needed all y h
    needed all y (inr (h, inl s)) = subst (Counts g sig w) (sym s) (branches_count g sig w x other_own other_plus l b is (so.needed all x taken_met)).0
    needed all y (inr (h, inr s)) = subst (Counts g sig w) (sym s) (branches_count g sig w x other_own other_plus l b is (so.needed all x taken_met)).1

    pub branched : AreCountsSoFar g sig w asked met_two left_two
    branched = record {
      words = λ y h. words y (one_of y h);
      within = still_within eq b.yes b.other met left_then met_one left_one met_two left_two one two within_then;
      kept = λ y h. still y (so.kept y h);
      done = λ y h. done y (one_of y h);
      needed = λ all y h. needed all y (one_of y h);
    }

  -- it is none
  pub not_all : (Counts g sig w x → ⊥) → (false ≡ true) ↔ ((y : CellId) → Contains asked y → Counts g sig w y)
  not_all none = (λ t. cc, λ all. absurd (none (so.needed all x taken_met)))

-- nothing is left
module _ {g : Cells} {sig w : ℕ} {asked met : List CellId} (so : AreCountsSoFar g sig w asked met []) where
  below : (n : ℕ) (x : CellId) → Contains met x → x.0 < n → Counts g sig w x
  below zero x h l = absurd (omega arith)
  below (suc n) x h l = go (so.done x h) (below n)
    where
      go : Contains [] x ⊎ CountsAfter g sig w met x → ((y : CellId) → Contains met y → y.0 < n → Counts g sig w y) → Counts g sig w x
      go (inl k) ih = absurd (nothing_in x k)
      go (inr f) ih = f (λ y k m. ih y k (omega arith))

  pub all_count : (true ≡ true) ↔ ((x : CellId) → Contains asked x → Counts g sig w x)
  all_count = (λ t x h. below (suc x.0) x (so.kept x h) (omega arith), λ all. refl)

-- equal ids are one
pub same_id : (a b : CellId) → equality.ghosts.eq a b ≡ true → a ≡ b
same_id a b t = same-cell a b (eqb-true a.0 b.0 t)

-- one word is asked for
module _ (g : Cells) (w : ℕ) (eq : CellId → CellId → Bool) (x : CellId) (met left met_then left_then : List CellId) (no_met : met ≡ []) (no_left : left ≡ []) where
  pub one_asked : HasWord g x w → Adds eq x met left met_then left_then → AreAsked g w met_then left_then
  one_asked has a = word_asked g w eq x met left met_then left_then
      (subst (λ (l : List CellId). AreAsked g w met l) (sym no_left) (subst (λ (m : List CellId). AreAsked g w m []) (sym no_met) (nothing_asked g w))) has a

module _ (g : Cells) (sig w : ℕ) (eq : CellId → CellId → Bool) (tells : (a b : CellId) → eq a b ≡ true → a ≡ b) (x : CellId) (met left met_then left_then : List CellId) (no_met : met ≡ [])
    (no_left : left ≡ []) (a : Adds eq x met left met_then left_then) where
  pub asked_alone : (t : Bool) → (t ≡ true) ↔ ((y : CellId) → Contains met_then y → Counts g sig w y) → (t ≡ true) ↔ Counts g sig w x
  asked_alone t h = (λ e. h.0 e x there, λ k. h.1 (λ y i. only k y (a.added y i)))
    where
      there : Contains met_then x
      there = let (z, i, s) = a.there in subst (Contains met_then) (sym (tells x z s)) i

      only : Counts g sig w x → (y : CellId) → Contains met y ⊎ (Contains left_then y × (y ≡ x)) → Counts g sig w y
      only k y (inl i) = absurd (nothing_in y (subst (λ (l : List CellId). Contains l y) no_met i))
      only k y (inr i) = subst (Counts g sig w) (sym i.1) k
