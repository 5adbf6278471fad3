-- Words that count a register, down their choices to a sum.
use Rattle.std.proofs.Common.{◌≡◌, ◌≢◌, ◌∙◌, sym, ap, refl, subst, inl, inr, ◌⊎◌, arith, ℕ, ◌-◌, ◌<◌, ◌≤◌, Bool, true, false, length, Some, None, List, [], ◌++◌}
use Rattle.std.proofs.lemmas.List.{append_assoc}
use Rattle.cell_graph.specs.declared.cell.Cell.TheVariants as cell
use Rattle.cell_graph.specs.declared.cell.CellId.{CellId}
use Rattle.cell_graph.specs.declared.cell.Node.{Node}
use Rattle.cell_graph.specs.Cells.{Cells, cell_at, cell_width}
use Rattle.cell_graph.specs.Cofactor.{known}
use Rattle.cell_graph.specs.Feeds.{node}
use Rattle.cell_graph.specs.Origin.{TreeBit, origin, tree_bit}
use Rattle.cell_graph.specs.Reading.{Reading}
use Rattle.cell_graph.specs.Tree.{Tree, Var, Add, Mux, bit, width}
use Rattle.cell_graph.specs.Unfolded.{unfolded, trees, tree_of, bit_of, IsCellOf, IsNodeOf}
use Rattle.cell_graph.proofs.OriginSound.{origin_sound}
use Rattle.cell_graph.proofs.Sound.{Knows, known_sound}
use Rattle.cell_graph.proofs.Trees.{width-tree_of}
use Rattle.cdc_model.specs.Word.{cells, origins, own_word, IsStepOfOne}
use Rattle.fifo_terms.specs.Counts.{CountsUnder, First, Second, Then, Else}
use Rattle.fifo_terms.specs.Terms.{Term, terms}
use Rattle.fifo_terms.specs.Shows.{node_terms}
use Rattle.gray_pointer.specs.declared.word.Choice.{Choice}
use Rattle.gray_pointer.specs.Words.{IsPlain, HasWord, word_of, IsPlus, IsChoice}
use Rattle.gray_pointer.proofs.Bits.{each_own, cells_tell, same_tree, same_place}
use Rattle.gray_pointer.proofs.Trees.{tree_there, is_cell, is_add, same_trees}
use Rattle.fifo_nodes.specs.declared.counts.Turn.{Turn}
use Rattle.fifo_nodes.specs.declared.term.Term.{Term as Found}
use Rattle.fifo_nodes.specs.Counts.{IsCounted, IsFollowed, IsStep, IsTurn, choice_by}
use Rattle.fifo_nodes.specs.Searches.{Searched, nothing, Covers, IsSearch}
use Rattle.fifo_nodes.specs.Terms.{terms_in, AreTerms}
use Rattle.fifo_nodes.proofs.Origins.{terms_origin}
use Rattle.fifo_nodes.proofs.Reaches.{IsReach, reaches}
use Rattle.fifo_nodes.proofs.Searches.{covers_nothing, covers_then, search_starts}

-- ---- what a word that counts is

abbrev pub IsOwnWord : ℕ → ℕ → Tree → Type 0
IsOwnWord b w t = origins t 0 w ≡ own_word b w

abbrev pub IsSumOf : ℕ → ℕ → List TreeBit → List Term → Type 0
IsSumOf b w n ts = (x y : Tree) × (n ≡ cells (Add x y) 0 w) × (((ts ≡ terms y 0 true) × IsOwnWord b w x × IsStepOfOne y w) ⊎ ((ts ≡ terms x 0 true) × IsOwnWord b w y × IsStepOfOne x w))

abbrev pub IsChoiceOf : ℕ → ℕ → List TreeBit → List Term → Type 0
IsChoiceOf b w n ts = (c x y : Tree) × (us : List Term) × (n ≡ cells (Mux c x y) 0 w)
    × (((ts ≡ terms c 0 true ++ us) × CountsUnder b w (origins x 0 w) us × IsOwnWord b w y) ⊎ ((ts ≡ terms c 0 false ++ us) × IsOwnWord b w x × CountsUnder b w (origins y 0 w) us))

pub count_cases : (b w : ℕ) (n : List TreeBit) (ts : List Term) → CountsUnder b w n ts → IsSumOf b w n ts ⊎ IsChoiceOf b w n ts
count_cases b w n ts (First x y o s) = inl (x, y, refl, inl (refl, o, s))
count_cases b w n ts (Second x y o s) = inl (x, y, refl, inr (refl, o, s))
count_cases b w n ts (Then c x y us k o) = inr (c, x, y, us, refl, inl (refl, k, o))
count_cases b w n ts (Else c x y us o k) = inr (c, x, y, us, refl, inr (refl, o, k))

module _ (b w : ℕ) (wide : 2 ≤ w) where
  -- the own word is no step
  pub own_no_step : (t : Tree) → IsOwnWord b w t → IsStepOfOne t w → ⊥
  own_no_step t own step =
      let r : Reading = λ x. true in
      let k : known [] t 1 ≡ Some false = step 1 (omega arith) (omega arith) in
      let low : bit r t 1 ≡ false = subst (λ o. Knows o (bit r t 1)) k (known_sound [] r tt t 1) in
      let o : origin t 1 ≡ Some (Var b w, 1) = each_own t (Var b w) w own 1 (omega arith) in
      let high : bit r t 1 ≡ true = origin_sound r t 1 ∙ ap (tree_bit r) o in
      let e : true ≡ false = sym high ∙ low in
      cc

  pub sum_not_own : (x y : Tree) → cells (Add x y) 0 w ≡ own_word b w → ⊥
  sum_not_own x y e = let f : Add x y ≡ Var b w = cells_tell (Add x y) (Var b w) w (omega arith) e in cc

  pub choice_not_own : (c x y : Tree) → cells (Mux c x y) 0 w ≡ own_word b w → ⊥
  choice_not_own c x y e = let f : Mux c x y ≡ Var b w = cells_tell (Mux c x y) (Var b w) w (omega arith) e in cc

  sum_no_choice : (x y c p q : Tree) → cells (Add x y) 0 w ≡ cells (Mux c p q) 0 w → ⊥
  sum_no_choice x y c p q e = let f : Add x y ≡ Mux c p q = cells_tell (Add x y) (Mux c p q) w (omega arith) e in cc

  -- a word that counts isn't the own word
  pub counts_not_own : (n : List TreeBit) (ts : List Term) → CountsUnder b w n ts → n ≢ own_word b w
  counts_not_own n ts k e = go (count_cases b w n ts k)
    where
      go : IsSumOf b w n ts ⊎ IsChoiceOf b w n ts → ⊥
      go (inl s) = sum_not_own s.0 s.1 (sym s.2 ∙ e)
      go (inr s) = choice_not_own s.0 s.1 s.2 (sym s.4 ∙ e)

  -- ---- a sum

  module _ (n : List TreeBit) (x s : Tree) (own : IsOwnWord b w x) (step : IsStepOfOne s w) where
    pub counts_by : (n ≡ cells (Add x s) 0 w) ⊎ (n ≡ cells (Add s x) 0 w) → CountsUnder b w n (terms s 0 true)
    counts_by (inl e) = subst (λ m. CountsUnder b w m (terms s 0 true)) (sym e) (First x s own step)
    counts_by (inr e) = subst (λ m. CountsUnder b w m (terms s 0 true)) (sym e) (Second s x own step)

    pub counts_only : (n ≡ cells (Add x s) 0 w) ⊎ (n ≡ cells (Add s x) 0 w) → (us : List Term) → CountsUnder b w n us → us ≡ terms s 0 true
    counts_only at us k = go at (count_cases b w n us k)
      where
        go : (n ≡ cells (Add x s) 0 w) ⊎ (n ≡ cells (Add s x) 0 w) → IsSumOf b w n us ⊎ IsChoiceOf b w n us → us ≡ terms s 0 true
        go (inl e) (inr (c, p, q, vs, f, h)) = absurd (sum_no_choice x s c p q (sym e ∙ f))
        go (inr e) (inr (c, p, q, vs, f, h)) = absurd (sum_no_choice s x c p q (sym e ∙ f))
        go (inl e) (inl (p, q, f, inl (t, o, z))) =
            let same : Add x s ≡ Add p q = cells_tell (Add x s) (Add p q) w (omega arith) (sym e ∙ f) in
            let i : q ≡ s = cc in t ∙ ap (λ (u : Tree). terms u 0 true) i
        go (inl e) (inl (p, q, f, inr (t, o, z))) =
            let same : Add x s ≡ Add p q = cells_tell (Add x s) (Add p q) w (omega arith) (sym e ∙ f) in
            let i : q ≡ s = cc in absurd (own_no_step s (subst (IsOwnWord b w) i o) step)
        go (inr e) (inl (p, q, f, inl (t, o, z))) =
            let same : Add s x ≡ Add p q = cells_tell (Add s x) (Add p q) w (omega arith) (sym e ∙ f) in
            let i : p ≡ s = cc in absurd (own_no_step s (subst (IsOwnWord b w) i o) step)
        go (inr e) (inl (p, q, f, inr (t, o, z))) =
            let same : Add s x ≡ Add p q = cells_tell (Add s x) (Add p q) w (omega arith) (sym e ∙ f) in
            let i : p ≡ s = cc in t ∙ ap (λ (u : Tree). terms u 0 true) i

  -- ---- a choice between the own word and another

  module _ (n : List TreeBit) (c x s : Tree) (own : IsOwnWord b w x) (other : origins s 0 w ≢ own_word b w) where
    pub turn_counts : (v : Bool) → n ≡ choice_by v c x s w → (us : List Term) → CountsUnder b w (origins s 0 w) us → CountsUnder b w n (terms c 0 v ++ us)
    turn_counts true e us k = subst (λ m. CountsUnder b w m (terms c 0 true ++ us)) (sym e) (Then c s x us k own)
    turn_counts false e us k = subst (λ m. CountsUnder b w m (terms c 0 false ++ us)) (sym e) (Else c x s us own k)

    pub turn_only : (v : Bool) → n ≡ choice_by v c x s w → (vs : List Term) → CountsUnder b w n vs → (us : List Term) × (vs ≡ terms c 0 v ++ us) × CountsUnder b w (origins s 0 w) us
    turn_only v e vs k = go v e (count_cases b w n vs k)
      where
        go : (v : Bool) → n ≡ choice_by v c x s w → IsSumOf b w n vs ⊎ IsChoiceOf b w n vs → (us : List Term) × (vs ≡ terms c 0 v ++ us) × CountsUnder b w (origins s 0 w) us
        go true e (inl (p, q, f, h)) = absurd (sum_no_choice p q c s x (sym f ∙ e))
        go false e (inl (p, q, f, h)) = absurd (sum_no_choice p q c x s (sym f ∙ e))
        go true e (inr (d, p, q, us, f, inl (t, h, o))) =
            let same : Mux c s x ≡ Mux d p q = cells_tell (Mux c s x) (Mux d p q) w (omega arith) (sym e ∙ f) in
            let i : d ≡ c = cc in let j : p ≡ s = cc in
            (us, t ∙ ap (λ (u : Tree). terms u 0 true ++ us) i, subst (λ (u : Tree). CountsUnder b w (origins u 0 w) us) j h)
        go true e (inr (d, p, q, us, f, inr (t, o, h))) =
            let same : Mux c s x ≡ Mux d p q = cells_tell (Mux c s x) (Mux d p q) w (omega arith) (sym e ∙ f) in
            let j : p ≡ s = cc in absurd (other (subst (IsOwnWord b w) j o))
        go false e (inr (d, p, q, us, f, inl (t, h, o))) =
            let same : Mux c x s ≡ Mux d p q = cells_tell (Mux c x s) (Mux d p q) w (omega arith) (sym e ∙ f) in
            let j : q ≡ s = cc in absurd (other (subst (IsOwnWord b w) j o))
        go false e (inr (d, p, q, us, f, inr (t, o, h))) =
            let same : Mux c x s ≡ Mux d p q = cells_tell (Mux c x s) (Mux d p q) w (omega arith) (sym e ∙ f) in
            let i : d ≡ c = cc in let j : q ≡ s = cc in
            (us, t ∙ ap (λ (u : Tree). terms u 0 false ++ us) i, subst (λ (u : Tree). CountsUnder b w (origins u 0 w) us) j h)

-- ---- the walk

-- the terms of the choices so far, and the word that is reached: it counts under the others where the first word counts
pub record IsCountSoFar (g : Cells) (b w : ℕ) (n : List TreeBit) (word : CellId) (old new : Searched) : Type 0 where
  pub under : List Term
  pub has : HasWord g word w
  pub back : (us : List Term) → CountsUnder b w (word_of g word w) us → CountsUnder b w n (under ++ us)
  pub forth : (vs : List Term) → CountsUnder b w n vs → (us : List Term) × (vs ≡ under ++ us) × CountsUnder b w (word_of g word w) us
  pub covers : Covers g (length g.cells) under old new

module _ (g : Cells) (b w : ℕ) (wide : 2 ≤ w) (n : List TreeBit) where
  pub count_begins : (word : CellId) (s : Searched) → n ≡ word_of g word w → HasWord g word w → IsCountSoFar g b w n word s s
  count_begins word s e has = record {
    under = [];
    has = has;
    back = λ us k. subst (λ m. CountsUnder b w m us) (sym e) k;
    forth = λ vs k. (vs, refl, subst (λ m. CountsUnder b w m vs) e k);
    covers = covers_nothing g (length g.cells) s;
  }

  pub count_goes_on : (word : CellId) (t : Turn) (x y z : Searched) → IsCountSoFar g b w n word x y → IsTurn g b w (word_of g word w) (Some t) → Covers g (length g.cells) (terms_in g t.cond t.value) y z
      → IsCountSoFar g b w n t.word x z
  count_goes_on word t x y z so ((c, own, at, is_own, cond), other, has, within) more = record {
    under = so.under ++ terms_in g t.cond t.value;
    has = has;
    back = λ us k. subst (CountsUnder b w n) (sym (append_assoc so.under (terms_in g t.cond t.value) us))
        (so.back (terms_in g t.cond t.value ++ us) (subst (λ ts. CountsUnder b w (word_of g word w) (ts ++ us)) same (turn_counts b w wide (word_of g word w) c own (tree_of g t.word) is_own other t.value at us k)));
    forth = λ vs k.
        let (us, e, h) = so.forth vs k in
        let (ws, f, i) = turn_only b w wide (word_of g word w) c own (tree_of g t.word) is_own other t.value at us h in
        (ws, e ∙ ap (λ l. so.under ++ l) (f ∙ ap (λ l. l ++ ws) same) ∙ sym (append_assoc so.under (terms_in g t.cond t.value) ws), i);
    covers = covers_then g (length g.cells) so.under (terms_in g t.cond t.value) x y z so.covers more;
  }
    where
      same : terms c 0 t.value ≡ terms_in g t.cond t.value
      same = terms_origin c 0 t.value ∙ ap (λ o. node_terms o t.value) cond

  pub count_ends : (word step : CellId) (x y z : Searched) → IsCountSoFar g b w n word x y → IsStep g b w (word_of g word w) (Some step) → Covers g (length g.cells) (terms_in g (Some (node step 0)) true) y z
      → IsFollowed g b w n true x z
  count_ends word step x y z so ((own, at, is_own), is_step, has) more = (
    so.under ++ terms (tree_of g step) 0 true,
    so.back (terms (tree_of g step) 0 true) (counts_by b w wide (word_of g word w) own (tree_of g step) is_own is_step at),
    covers_then g (length g.cells) so.under (terms (tree_of g step) 0 true) x y z so.covers more,
    λ us k. let (vs, e, h) = so.forth us k in e ∙ ap (λ l. so.under ++ l) (counts_only b w wide (word_of g word w) own (tree_of g step) is_own is_step at vs h),
  )

  pub count_fails : (word : CellId) (x y z : Searched) → IsCountSoFar g b w n word x y → IsStep g b w (word_of g word w) None → IsTurn g b w (word_of g word w) None → IsFollowed g b w n false x z
  count_fails word x y z so no_step no_turn ts k = let (us, e, h) = so.forth ts k in go us h (count_cases b w (word_of g word w) us h)
    where
      go : (us : List Term) → CountsUnder b w (word_of g word w) us → IsSumOf b w (word_of g word w) us ⊎ IsChoiceOf b w (word_of g word w) us → ⊥
      go us h (inl (p, q, f, inl (t, o, s))) = no_step p q f (inl (o, s))
      go us h (inl (p, q, f, inr (t, o, s))) = no_step p q f (inr (o, s))
      go us h (inr (c, p, q, vs, f, inl (t, i, o))) = no_turn c p q f (inr (counts_not_own b w wide (origins p 0 w) vs i, o))
      go us h (inr (c, p, q, vs, f, inr (t, o, i))) = no_turn c p q f (inl (o, counts_not_own b w wide (origins q 0 w) vs i))

-- what was found of the terms
pub counted_found : (g : Cells) (b w : ℕ) (n : List TreeBit) (s : Searched) (found : List Found) → IsFollowed g b w n true nothing s → ((ts : List Term) → IsSearch g ts s → AreTerms g ts found)
    → IsCounted g b w n (Some found)
counted_found g b w n s found (ts, counts, covers, only) terms = (ts, counts, terms ts (search_starts g ts (length g.cells) s covers), only)

-- ---- single steps

module _ (g : Cells) (plain : IsPlain g) (b w : ℕ) (wide : 2 ≤ w) (word : CellId) (has : HasWord g word w) where
  pub own_no_sum : word_of g word w ≡ own_word b w → IsStep g b w (word_of g word w) None
  own_no_sum e x y f k = sum_not_own b w wide x y (sym f ∙ e)

  pub no_plus_no_sum : (IsPlus b w (word_of g word w) → ⊥) → IsStep g b w (word_of g word w) None
  no_plus_no_sum none x y f k = none (x, y, f, k)

  module _ (plus : IsPlus b w (word_of g word w)) where
    first : origin (tree_of g word) 0 ≡ Some (Add plus.0 plus.1, 0)
    first = each_own (tree_of g word) (Add plus.0 plus.1) w plus.2 0 (omega arith)

    pub plus_there : origin (tree_of g word) 0 ≡ None → ⊥
    plus_there e = let f = first in cc

    module _ (sum : Node) (at : origin (tree_of g word) 0 ≡ Some (bit_of g sum)) (is : IsNodeOf g sum) where
      tree_is : tree_of g sum.cell ≡ Add plus.0 plus.1
      tree_is = same_tree (tree_of g sum.cell) (Add plus.0 plus.1) sum.at 0 (sym at ∙ first)

      pub plus_is_add : ((p q : CellId) → cell_at g sum.cell ≢ cell.Add p q) → ⊥
      plus_is_add none = let m = is_add g plain.well sum.cell is.0 plus.0 plus.1 tree_is in none m.0 m.1 m.2

      module _ (p q : CellId) (m : cell_at g sum.cell ≡ cell.Add p q) where
        parts : IsCellOf g sum.cell.0 (cell.Add p q)
        parts = subst (IsCellOf g sum.cell.0) m (is_cell g plain.well sum.cell is.0)

        add : tree_of g sum.cell ≡ Add (tree_of g p) (tree_of g q)
        add = tree_there g plain.well sum.cell is.0 ∙ ap (unfolded g.signals (trees g)) m

        -- the sum has all bits of the word
        wide_sum : w ≤ cell_width g sum.cell
        wide_sum = go (reaches g plain.well (record { cell = word; at = w - 1 }) (has.0, let h = has.2 in omega arith))
          where
            last : origin (tree_of g word) (w - 1) ≡ Some (Add plus.0 plus.1, w - 1)
            last = each_own (tree_of g word) (Add plus.0 plus.1) w plus.2 (w - 1) (omega arith)

            go : IsReach g (record { cell = word; at = w - 1 }) → w ≤ cell_width g sum.cell
            go (inl e) = let f = last in absurd (cc)
            go (inr (k, in_graph, lower, e)) =
                let t = same_tree (tree_of g k.cell) (Add plus.0 plus.1) k.at (w - 1) (sym e ∙ last) in
                let at = same_place (tree_of g k.cell) (Add plus.0 plus.1) k.at (w - 1) (sym e ∙ last) in
                let same : k.cell ≡ sum.cell = same_trees g plain k.cell sum.cell in_graph.0 is.0 (t ∙ sym tree_is) in
                let lt : k.at < cell_width g sum.cell = subst (λ (x : CellId). k.at < cell_width g x) same in_graph.1 in
                omega arith

        wide_left : cell_width g sum.cell ≡ cell_width g p
        wide_left = width-tree_of g sum.cell ∙ ap width add ∙ sym (width-tree_of g p)

        pub left_word : HasWord g p w
        left_word = let h = parts.0 in let l = is.0 in let k = wide_sum in let j = wide_left in ((omega arith), (omega arith), (omega arith))

        pub right_word : HasWord g q w
        right_word = let h = parts.1 in let l = is.0 in let k = wide_sum in let j = wide_left in let i = parts.2 in ((omega arith), (omega arith), (omega arith))

        is_sum : word_of g word w ≡ cells (Add (tree_of g p) (tree_of g q)) 0 w
        is_sum = plus.2 ∙ ap (λ (t : Tree). cells t 0 w) (sym tree_is ∙ add)

        sides : (IsOwnWord b w (tree_of g p) × IsStepOfOne (tree_of g q) w) ⊎ (IsOwnWord b w (tree_of g q) × IsStepOfOne (tree_of g p) w)
        sides =
            let s : Add plus.0 plus.1 ≡ Add (tree_of g p) (tree_of g q) = sym tree_is ∙ add in
            let u : plus.0 ≡ tree_of g p = cc in
            let v : plus.1 ≡ tree_of g q = cc in
            subst (λ (t : Tree). (IsOwnWord b w (tree_of g p) × IsStepOfOne t w) ⊎ (IsOwnWord b w t × IsStepOfOne (tree_of g p) w)) v
            (subst (λ (t : Tree). (IsOwnWord b w t × IsStepOfOne plus.1 w) ⊎ (IsOwnWord b w plus.1 × IsStepOfOne t w)) u plus.3)

        pub left_own : word_of g p w ≡ own_word b w → IsStep g b w (word_of g word w) (Some q)
        left_own own = go sides
          where
            go : (IsOwnWord b w (tree_of g p) × IsStepOfOne (tree_of g q) w) ⊎ (IsOwnWord b w (tree_of g q) × IsStepOfOne (tree_of g p) w) → IsStep g b w (word_of g word w) (Some q)
            go (inl (o, s)) = ((tree_of g p, inl is_sum, o), s, right_word)
            go (inr (o, s)) = absurd (own_no_step b w wide (tree_of g p) own s)

        pub right_own : word_of g p w ≢ own_word b w → IsStep g b w (word_of g word w) (Some p)
        right_own other = go sides
          where
            go : (IsOwnWord b w (tree_of g p) × IsStepOfOne (tree_of g q) w) ⊎ (IsOwnWord b w (tree_of g q) × IsStepOfOne (tree_of g p) w) → IsStep g b w (word_of g word w) (Some p)
            go (inl (o, s)) = absurd (other o)
            go (inr (o, s)) = ((tree_of g q, inr is_sum, o), s, left_word)

  -- ---- choices

  pub no_choice_no_turn : IsChoice g word w None → IsTurn g b w (word_of g word w) None
  no_choice_no_turn none c x y e k = none c x y e

  module _ (choice : Choice) (is : IsChoice g word w (Some choice)) where
    pub stays_first : word_of g choice.yes w ≡ own_word b w → word_of g choice.other w ≢ own_word b w
        → IsTurn g b w (word_of g word w) (Some (record { cond = choice.cond; value = false; word = choice.other }))
    stays_first own other = ((is.0.0, tree_of g choice.yes, is.0.1, own, is.0.2), other, is.3, is.1)

    pub stays_second : word_of g choice.yes w ≢ own_word b w → word_of g choice.other w ≡ own_word b w
        → IsTurn g b w (word_of g word w) (Some (record { cond = choice.cond; value = true; word = choice.yes }))
    stays_second other own = ((is.0.0, tree_of g choice.other, is.0.1, own, is.0.2), other, is.2, is.1)

    -- both branches are the own word, or neither is
    pub no_turn : ((word_of g choice.yes w ≡ own_word b w) × (word_of g choice.other w ≢ own_word b w) → ⊥) → ((word_of g choice.yes w ≢ own_word b w) × (word_of g choice.other w ≡ own_word b w) → ⊥)
        → IsTurn g b w (word_of g word w) None
    no_turn not_first not_second c x y e k = go k
      where
        same : Mux is.0.0 (tree_of g choice.yes) (tree_of g choice.other) ≡ Mux c x y
        same = cells_tell (Mux is.0.0 (tree_of g choice.yes) (tree_of g choice.other)) (Mux c x y) w (omega arith) (sym is.0.1 ∙ e)

        first : tree_of g choice.yes ≡ x
        first = let s = same in cc

        second : tree_of g choice.other ≡ y
        second = let s = same in cc

        go : ((origins x 0 w ≡ own_word b w) × (origins y 0 w ≢ own_word b w)) ⊎ ((origins x 0 w ≢ own_word b w) × (origins y 0 w ≡ own_word b w)) → ⊥
        go (inl (o, f)) = not_first (subst (IsOwnWord b w) (sym first) o, λ h. f (subst (IsOwnWord b w) second h))
        go (inr (f, o)) = not_second ((λ h. f (subst (IsOwnWord b w) first h)), subst (IsOwnWord b w) (sym second) o)
