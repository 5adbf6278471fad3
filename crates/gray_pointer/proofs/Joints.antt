-- The walk over the pairs of words that a counter and the register that follows it may take.
use Rattle.std.proofs.Common.{◌≡◌, ◌∙◌, ◌↔◌, ◌++◌, sym, ap, ap₂, refl, subst, inl, inr, ◌⊎◌, arith, ℕ, zero, suc, ◌<◌, ◌≤◌, List, [], ◌∷◌, Contains, Bool, true, false, Some, None}
use Rattle.std.proofs.lemmas.List.Elements.{Contains-push, Contains-push_cases, Contains-append_left}
use Rattle.cell_graph.specs.declared.cell.CellId.{CellId}
use Rattle.cell_graph.specs.Tree.{Tree, Mux}
use Rattle.cell_graph.specs.Cells.{Cells}
use Rattle.cell_graph.specs.Origin.{TreeBit, origin}
use Rattle.cell_graph.specs.Unfolded.{tree_of}
use Rattle.cdc_model.specs.Word.{cells, origins, own_word, IsCount, IsGrayWord, IsJoint, Coded, Stay, Both, Own, Choose}
use Rattle.gray_pointer.specs.declared.word.Choice.{Choice}
use Rattle.gray_pointer.specs.contracts.shapes.BothPartialEq.TheImpl as equality
use Rattle.cell_graph.specs.contracts.cell.CellIdPartialEq.TheImpl as ids
use Rattle.std.proofs.lemmas.Bool.{and_parts}
use Rattle.gray_pointer.specs.declared.shapes.Both.{Both as Pair}
use Rattle.gray_pointer.specs.declared.shapes.Branches.{Branches}
use Rattle.gray_pointer.specs.Shapes.{Counts, AreJoint, AreJointAfter, HaveWords, AreJointSoFar, AreBranches}
use Rattle.gray_pointer.specs.Words.{IsPlain, word_of, IsChoice}
use Rattle.gray_pointer.specs.Worklists.{Adds}
use Rattle.gray_pointer.proofs.Adding.{IsOneOf, two_added, still_met, still_waits, still_within, first_met, second_met}
use Rattle.cdc_model.proofs.Ascending.{nothing_in}
use Rattle.gray_pointer.proofs.Bits.{cells_tell}
use Rattle.gray_pointer.proofs.Counts.{nothing_asked, word_asked, same_id}
use Rattle.gray_pointer.proofs.Wholes.{same_origins}

-- ---- what a joint pair is

pub joint_count : (b c w : ℕ) (n m : List TreeBit) → IsJoint b c w n m → IsCount b w n
joint_count b c w n m (Coded k h) = k
joint_count b c w n m Stay = Own
joint_count b c w n m (Both s e x y u v same h k) = Choose s x y (joint_count b c w (origins x 0 w) (origins u 0 w) h) (joint_count b c w (origins y 0 w) (origins v 0 w) k)

abbrev pub IsBoth : ℕ → ℕ → ℕ → List TreeBit → List TreeBit → Type 0
IsBoth b c w n m = (s e x y u v : Tree) × (n ≡ cells (Mux s x y) 0 w) × (m ≡ cells (Mux e u v) 0 w) × (origin s 0 ≡ origin e 0)
    × IsJoint b c w (origins x 0 w) (origins u 0 w) × IsJoint b c w (origins y 0 w) (origins v 0 w)

pub joint_cases : (b c w : ℕ) (n m : List TreeBit) → IsJoint b c w n m → IsGrayWord m n ⊎ (((n ≡ own_word b w) × (m ≡ own_word c w)) ⊎ IsBoth b c w n m)
joint_cases b c w n m (Coded k h) = inl h
joint_cases b c w n m Stay = inr (inl (refl, refl))
joint_cases b c w n m (Both s e x y u v same h k) = inr (inr (s, e, x, y, u, v, refl, refl, same, h, k))

pub stay_joint : (b c w : ℕ) (n m : List TreeBit) → n ≡ own_word b w → m ≡ own_word c w → IsJoint b c w n m
stay_joint b c w n m e f = subst (λ (k : List TreeBit). IsJoint b c w k m) (sym e) (subst (IsJoint b c w (own_word b w)) (sym f) Stay)

both_joint : (b c w : ℕ) (n m : List TreeBit) → IsBoth b c w n m → IsJoint b c w n m
both_joint b c w n m (s, e, x, y, u, v, f, i, same, h, k) =
    subst (λ (o : List TreeBit). IsJoint b c w o m) (sym f) (subst (IsJoint b c w (cells (Mux s x y) 0 w)) (sym i) (Both s e x y u v same h k))

module _ (g : Cells) (b c w : ℕ) (x : Pair) (no_code : IsGrayWord (word_of g x.gray w) (word_of g x.count w) → ⊥)
    (no_stay : (word_of g x.count w ≡ own_word b w) × (word_of g x.gray w ≡ own_word c w) → ⊥) where
  is_both : AreJoint g b c w x → IsBoth b c w (word_of g x.count w) (word_of g x.gray w)
  is_both h = go (joint_cases b c w (word_of g x.count w) (word_of g x.gray w) h)
    where
      go : IsGrayWord (word_of g x.gray w) (word_of g x.count w)
          ⊎ (((word_of g x.count w ≡ own_word b w) × (word_of g x.gray w ≡ own_word c w)) ⊎ IsBoth b c w (word_of g x.count w) (word_of g x.gray w))
          → IsBoth b c w (word_of g x.count w) (word_of g x.gray w)
      go (inl k) = absurd (no_code k)
      go (inr (inl k)) = absurd (no_stay k)
      go (inr (inr k)) = k

  pub no_joint : AreBranches g x w None → AreJoint g b c w x → ⊥
  no_joint none h = let (s, e, p, q, u, v, f, i, same, j, k) = is_both h in none s e p q u v f i same

  pub branches_joint : 1 ≤ w → (s : Branches) → AreBranches g x w (Some s) → AreJoint g b c w x → AreJoint g b c w s.yes × AreJoint g b c w s.other
  branches_joint l s is h =
      let (p, e, y, z, u, v, f, i, same, j, k) = is_both h in
      let first = is.0 in
      let a : Mux first.0 (tree_of g s.yes.count) (tree_of g s.other.count) ≡ Mux p y z =
      cells_tell (Mux first.0 (tree_of g s.yes.count) (tree_of g s.other.count)) (Mux p y z) w l (sym first.2 ∙ f) in
      let d : Mux first.1 (tree_of g s.yes.gray) (tree_of g s.other.gray) ≡ Mux e u v =
      cells_tell (Mux first.1 (tree_of g s.yes.gray) (tree_of g s.other.gray)) (Mux e u v) w l (sym first.3 ∙ i) in
      let ya : y ≡ tree_of g s.yes.count = cc in
      let za : z ≡ tree_of g s.other.count = cc in
      let ud : u ≡ tree_of g s.yes.gray = cc in
      let vd : v ≡ tree_of g s.other.gray = cc in (
        subst (λ (t : Tree). IsJoint b c w (origins t 0 w) (word_of g s.yes.gray w)) ya (subst (λ (t : Tree). IsJoint b c w (origins y 0 w) (origins t 0 w)) ud j),
        subst (λ (t : Tree). IsJoint b c w (origins t 0 w) (word_of g s.other.gray w)) za (subst (λ (t : Tree). IsJoint b c w (origins z 0 w) (origins t 0 w)) vd k),
      )

module _ (g : Cells) (b c w : ℕ) (start : Pair) where
  -- the pair that the walk begins with
  pub first_pair : (eq : Pair → Pair → Bool) → ((p q : Pair) → eq p q ≡ true → p ≡ q) → (met left : List Pair) → HaveWords g start w → Adds eq start [] [] met left
      → AreJointSoFar g b c w start [] [] met left
  first_pair eq tells met left has a = record {
    words = λ x h. subst (λ z. HaveWords g z w) (sym (only x h).1) has;
    within = λ x h. within x (a.only x h);
    there = let (z, h, s) = a.there in subst (Contains met) (sym (tells start z s)) h;
    asked = nothing_asked g w;
    done = λ x h. inl (only x h).0;
    needed = λ all. (λ x h. subst (AreJoint g b c w) (sym (only x h).1) all, λ y h. absurd (nothing_in y h));
  }
    where
      is_only : (x : Pair) → Contains [] x ⊎ (Contains left x × (x ≡ start)) → Contains left x × (x ≡ start)
      is_only x (inl h) = absurd (nothing_in x h)
      is_only x (inr h) = h

      only : (x : Pair) → Contains met x → Contains left x × (x ≡ start)
      only x h = is_only x (a.added x h)

      within : (x : Pair) → Contains [] x ⊎ Contains met x → Contains met x
      within x (inl h) = absurd (nothing_in x h)
      within x (inr h) = h

-- one pair is taken
module _ {g : Cells} {b c w : ℕ} {start : Pair} {counts waiting : List CellId} {met left : List Pair} (left_then : List Pair) (x : Pair) (e : left ≡ left_then ++ x ∷ [])
    (so : AreJointSoFar g b c w start counts waiting met left) where
  pub taken_met : Contains met x
  taken_met = so.within x (subst (λ (l : List Pair). Contains l x) (sym e) (Contains-push left_then x))

  pub taken_words : HaveWords g x w
  taken_words = so.words x taken_met

  within_then : (y : Pair) → Contains left_then y → Contains met y
  within_then y h = so.within y (subst (λ (l : List Pair). Contains l y) (sym e) (Contains-append_left left_then (x ∷ []) y h))

  -- both keep their values
  pub pair_stays : word_of g x.count w ≡ own_word b w → word_of g x.gray w ≡ own_word c w → AreJointSoFar g b c w start counts waiting met left_then
  pair_stays f i = record {
    words = so.words;
    within = within_then;
    there = so.there;
    asked = so.asked;
    done = λ y h. done y (so.done y h);
    needed = so.needed;
  }
    where
      taken : (y : Pair) → Contains left_then y ⊎ (x ≡ y) → Contains left_then y ⊎ AreJointAfter g b c w counts met y
      taken y (inl h) = inl h
      taken y (inr s) = inr (λ p q. subst (AreJoint g b c w) s (stay_joint b c w (word_of g x.count w) (word_of g x.gray w) f i))

      done : (y : Pair) → Contains left y ⊎ AreJointAfter g b c w counts met y → Contains left_then y ⊎ AreJointAfter g b c w counts met y
      done y (inl h) = taken y (Contains-push_cases left_then x y (subst (λ (l : List Pair). Contains l y) e h))
      done y (inr f) = inr f

  -- the one takes the code of the other
  pub pair_coded : {eq : CellId → CellId → Bool} {counts_then waiting_then : List CellId} → ((p q : CellId) → eq p q ≡ true → p ≡ q) → Adds eq x.count counts waiting counts_then waiting_then
      → IsGrayWord (word_of g x.gray w) (word_of g x.count w) → AreJointSoFar g b c w start counts_then waiting_then met left_then
  pair_coded {eq} {counts_then} {waiting_then} tells a code = record {
    words = so.words;
    within = within_then;
    there = so.there;
    asked = word_asked g w eq x.count counts waiting counts_then waiting_then so.asked taken_words.0 a;
    done = λ y h. done y (so.done y h);
    needed = λ all. ((so.needed all).0, λ y h. needed all y (a.added y h));
  }
    where
      count_there : Contains counts_then x.count
      count_there = let (z, h, s) = a.there in subst (Contains counts_then) (sym (tells x.count z s)) h

      taken : (y : Pair) → Contains left_then y ⊎ (x ≡ y) → Contains left_then y ⊎ AreJointAfter g b c w counts_then met y
      taken y (inl h) = inl h
      taken y (inr s) = inr (λ p q. subst (AreJoint g b c w) s (Coded (p x.count count_there) code))

      done : (y : Pair) → Contains left y ⊎ AreJointAfter g b c w counts met y → Contains left_then y ⊎ AreJointAfter g b c w counts_then met y
      done y (inl h) = taken y (Contains-push_cases left_then x y (subst (λ (l : List Pair). Contains l y) e h))
      done y (inr f) = inr (λ p q. f (λ z h. p z (a.kept z h)) q)

      needed : AreJoint g b c w start → (y : CellId) → Contains counts y ⊎ (Contains waiting_then y × (y ≡ x.count)) → Counts g b w y
      needed all y (inl h) = (so.needed all).1 y h
      needed all y (inr h) = subst (Counts g b w) (sym h.1) (joint_count b c w (word_of g x.count w) (word_of g x.gray w) ((so.needed all).0 x taken_met))

  -- both are choices, whose branches are added
  module _ {eq : Pair → Pair → Bool} {met_one left_one met_two left_two : List Pair} (tells : (p q : Pair) → eq p q ≡ true → p ≡ q) (l : 1 ≤ w)
      (no_code : IsGrayWord (word_of g x.gray w) (word_of g x.count w) → ⊥) (no_stay : (word_of g x.count w ≡ own_word b w) × (word_of g x.gray w ≡ own_word c w) → ⊥)
      (s : Branches) (is : AreBranches g x w (Some s)) (one : Adds eq s.yes met left_then met_one left_one) (two : Adds eq s.other met_one left_one met_two left_two) where
    one_of : (y : Pair) → Contains met_two y → IsOneOf met left_two s.yes s.other y
    one_of = two_added eq s.yes s.other met left_then met_one left_one met_two left_two one two

    still : (y : Pair) → Contains met y → Contains met_two y
    still = still_met eq s.yes s.other met left_then met_one left_one met_two left_two one two

    chosen_now : AreJointAfter g b c w counts met_two x
    chosen_now p q =
        let first = is.0 in
        both_joint b c w (word_of g x.count w) (word_of g x.gray w) (
          first.0,
          first.1,
          tree_of g s.yes.count,
          tree_of g s.other.count,
          tree_of g s.yes.gray,
          tree_of g s.other.gray,
          first.2,
          first.3,
          first.4,
          q s.yes (first_met eq s.yes s.other met left_then met_one left_one met_two left_two one two tells) is.3,
          q s.other (second_met eq s.yes s.other met left_then met_one left_one met_two left_two one two tells) is.4,
        )

    waits_or_joint : (y : Pair) → Contains left y ⊎ AreJointAfter g b c w counts met y → Contains left_two y ⊎ AreJointAfter g b c w counts met_two y
    waits_or_joint y (inl h) = go (Contains-push_cases left_then x y (subst (λ (l : List Pair). Contains l y) e h))
      where
        go : Contains left_then y ⊎ (x ≡ y) → Contains left_two y ⊎ AreJointAfter g b c w counts met_two y
        go (inl k) = inl (still_waits eq s.yes s.other met left_then met_one left_one met_two left_two one two y k)
        go (inr t) = inr (subst (AreJointAfter g b c w counts met_two) t chosen_now)
    waits_or_joint y (inr f) = inr (λ p q. f p (λ z h k. q z (still z h) k))

    done : (y : Pair) → IsOneOf met left_two s.yes s.other y → Contains left_two y ⊎ AreJointAfter g b c w counts met_two y
    done y (inl h) = waits_or_joint y (so.done y h)
    done y (inr h) = inl h.0

    words : (y : Pair) → IsOneOf met left_two s.yes s.other y → HaveWords g y w
    words y (inl h) = so.words y h
    words y (inr (h, inl t)) = subst (λ z. HaveWords g z w) (sym t) is.1
    words y (inr (h, inr t)) = subst (λ z. HaveWords g z w) (sym t) is.2

    both_are : AreJoint g b c w start → AreJoint g b c w s.yes × AreJoint g b c w s.other
    both_are all = branches_joint g b c w x no_code no_stay l s is ((so.needed all).0 x taken_met)

    needed : AreJoint g b c w start → (y : Pair) → IsOneOf met left_two s.yes s.other y → AreJoint g b c w y
    needed all y (inl h) = (so.needed all).0 y h
    needed all y (inr (h, inl t)) = subst (AreJoint g b c w) (sym t) (both_are all).0
    needed all y (inr (h, inr t)) = subst (AreJoint g b c w) (sym t) (both_are all).1

    pub pair_branches : AreJointSoFar g b c w start counts waiting met_two left_two
    pair_branches = record {
      words = λ y h. words y (one_of y h);
      within = still_within eq s.yes s.other met left_then met_one left_one met_two left_two one two within_then;
      there = still start so.there;
      asked = so.asked;
      done = λ y h. done y (one_of y h);
      needed = λ all. (λ y h. needed all y (one_of y h), (so.needed all).1);
    }

  -- the pair that is taken is no joint pair
  pub not_joint : (AreJoint g b c w x → ⊥) → (false ≡ true) ↔ AreJoint g b c w start
  not_joint none = (λ t. cc, λ all. absurd (none ((so.needed all).0 x taken_met)))

-- no pair is left: the pairs are joint where the count words are
module _ {g : Cells} {b c w : ℕ} {start : Pair} {counts waiting : List CellId} {met : List Pair} (so : AreJointSoFar g b c w start counts waiting met []) where
  below : ((x : CellId) → Contains counts x → Counts g b w x) → (n : ℕ) (x : Pair) → Contains met x → x.count.0 < n → AreJoint g b c w x
  below all zero x h l = absurd (omega arith)
  below all (suc n) x h l = go (so.done x h) (below all n)
    where
      go : Contains [] x ⊎ AreJointAfter g b c w counts met x → ((y : Pair) → Contains met y → y.count.0 < n → AreJoint g b c w y) → AreJoint g b c w x
      go (inl k) ih = absurd (nothing_in x k)
      go (inr f) ih = f all (λ y k m. ih y k (omega arith))

  pub all_joint : (t : Bool) → (t ≡ true) ↔ ((x : CellId) → Contains counts x → Counts g b w x) → (t ≡ true) ↔ AreJoint g b c w start
  all_joint t are = (λ e. below (are.0 e) (suc start.count.0) start so.there (omega arith), λ all. are.1 (so.needed all).1)

-- choices by two conditions
pub no_branches : (g : Cells) → IsPlain g → (x : Pair) (w : ℕ) → 1 ≤ w → (a b : Choice) → IsChoice g x.count w (Some a) → IsChoice g x.gray w (Some b) → (a.cond ≡ b.cond → ⊥)
    → AreBranches g x w None
no_branches g plain x w l a b is of differ s e p q u v f i same =
    let one : Mux is.0.0 (tree_of g a.yes) (tree_of g a.other) ≡ Mux s p q = cells_tell (Mux is.0.0 (tree_of g a.yes) (tree_of g a.other)) (Mux s p q) w l (sym is.0.1 ∙ f) in
    let two : Mux of.0.0 (tree_of g b.yes) (tree_of g b.other) ≡ Mux e u v = cells_tell (Mux of.0.0 (tree_of g b.yes) (tree_of g b.other)) (Mux e u v) w l (sym of.0.1 ∙ i) in
    let three : is.0.0 ≡ s = cc in
    let four : of.0.0 ≡ e = cc in
    differ (same_origins g plain a.cond b.cond is.1 of.1
    (sym is.0.2 ∙ ap (λ (t : Tree). origin t 0) three ∙ same ∙ sym (ap (λ (t : Tree). origin t 0) four) ∙ of.0.2))

-- the walk begins with one pair
pub begin_pair : (g : Cells) (b c w : ℕ) (start : Pair) (eq : Pair → Pair → Bool) → ((p q : Pair) → eq p q ≡ true → p ≡ q) → (counts waiting : List CellId) (met left met_then left_then : List Pair)
    → counts ≡ [] → waiting ≡ [] → met ≡ [] → left ≡ [] → HaveWords g start w → Adds eq start met left met_then left_then → AreJointSoFar g b c w start counts waiting met_then left_then
begin_pair g b c w start eq tells counts waiting met left met_then left_then one two three four has a =
    subst (λ (l : List CellId). AreJointSoFar g b c w start l waiting met_then left_then) (sym one)
    (subst (λ (l : List CellId). AreJointSoFar g b c w start [] l met_then left_then) (sym two)
    (first_pair g b c w start eq tells met_then left_then has
    (subst (λ (l : List Pair). Adds eq start [] l met_then left_then) four (subst (λ (l : List Pair). Adds eq start l left met_then left_then) three a))))

-- equal pairs are one
pub same_pair : (p q : Pair) → equality.ghosts.eq p q ≡ true → p ≡ q
same_pair p q t =
    let h = and_parts (ids.ghosts.eq p.count q.count) (ids.ghosts.eq p.gray q.gray) t in
    ap₂ (λ (x y : CellId). let r : Pair = record { count = x; gray = y } in r) (same_id p.count q.count h.0) (same_id p.gray q.gray h.1)
