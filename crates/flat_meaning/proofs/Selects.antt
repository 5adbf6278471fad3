-- Where the pieces that it meets are right, a select has the signal's bits; so the pieces of a bit are right where those are that it is made of.
use Rattle.std.proofs.Common.{◌≡◌, ℕ, zero, suc, ◌+◌, ◌<◌, ◌≤◌, max, min, Bool, true, false, cond, ◌&&◌, ◌||◌, nat_lt, nat_le, List, [], ◌∷◌, refl, sym, ap, ap₂, subst, ◌∙◌, arith, lt-ltb, leb-true, eq-eqb, zero-add}
use Rattle.std.specs.List.{AllByRecursion as Each}
use Rattle.std.proofs.lemmas.Bool.{and_parts}
use Rattle.cell_graph.specs.Reading.{Reading}
use Rattle.cell_graph.specs.Tree.{Tree, Var, width, bit}
use Rattle.flat_meaning.specs.Values.{Words}
use Rattle.flat_meaning.specs.Flat.{Expr, Target, Stmt, target_size, value_size, assigns}
use Rattle.flat_meaning.specs.Meaning.{value, run_blocking}
use Rattle.flat_meaning.specs.Trees.{Selects, cut, tree, value_tree}
use Rattle.flat_meaning.specs.Fits.{Fits}
use Rattle.flat_meaning.specs.Assigned.{is_within, covers, may_assign}
use Rattle.flat_meaning.specs.Deps.{Bits, AllIn, span, wire_deps}
use Rattle.flat_meaning.specs.Law.{MayBe, Shows, expr_reads, wire_tree}
use Rattle.flat_meaning.specs.Pieces.{Piece, pieces, comb_pieces, assigned_pieces, all_comb_pieces, wire_select, IsRight, AreMet}
use Rattle.flat_meaning.specs.Design.{once, Flat, size_in, is_variable, bit_of, drivers}
use Rattle.flat_meaning.specs.Sound.{IsSoundAssign, inside, IsSoundComb, IsSound}
use Rattle.flat_meaning.specs.SignalTrees.{pieces_of, AreTrees}
use Rattle.flat_meaning.specs.Segments.{made_of, made_by_assigns, made_by_combs}
use Rattle.flat_meaning.proofs.Words.{IsWord, as_word, cut_word, never, never_same, by_lt}
use Rattle.flat_meaning.proofs.Targets.{left_in, right_in}
use Rattle.flat_meaning.proofs.Law.{expression_law, comb_law}
use Rattle.flat_meaning.proofs.Pieces.{select_law}
use Rattle.flat_meaning.proofs.Depth.{by_bool, IsDeep}
use Rattle.flat_meaning.proofs.Placed.{times, times_in_order, all_in_order, all_both, Ascend, none_below, none_past, none_within, each_of, each_map, each_all, each_swap, within, not_below, not_above}
use Rattle.flat_meaning.proofs.Drivers.{pieces_times, not_covered, not_assigned, comb_times, driven, driven_times, driven_in, pieces_ascend}

ascend_end : (n : ℕ) (ps : List Piece) (whole : ℕ) → Ascend n ps whole → n ≤ whole
ascend_end n [] whole h = h
ascend_end n (p ∷ ps) whole h = let k = ascend_end (p.bits + p.at) ps whole h.1 in let l = h.0 in omega arith

module _ (g : Reading) (v : ℕ → Bool) (at w : ℕ) where
  abbrev IsMetRight : Piece → Type 0
  IsMetRight p = max at p.at < min (at + w) (p.bits + p.at) → IsRight g v p

  pub to_met : (ps : List Piece) (n whole : ℕ) → Ascend n ps whole → ((i : ℕ) → n ≤ i → i < whole → times ps i ≡ 0 → v i ≡ false) → Each IsMetRight ps → AreMet g v at w n ps whole
  to_met [] n whole h z k = (h, λ i l m. z i l m refl)
  to_met (p ∷ ps) n whole h z k =
      let end = ascend_end (p.bits + p.at) ps whole h.1 in let start = h.0 in (
        h.0,
        λ i l m. z i l (omega arith) (let a = ap once (not_below p.at p.bits i m) in let b = none_below (p.bits + p.at) ps whole i h.1 (omega arith) in omega arith),
        k.0,
        to_met ps (p.bits + p.at) whole h.1 (λ i l m e. z i (omega arith) m (let a = ap once (not_above p.at p.bits i (omega arith)) in omega arith)) k.1,
      )

pub in_span : (t at w j : ℕ) → at ≤ j → j < at + w → span t at w t j ≡ true
in_span t at w j l m = ap₂ (λ x y. x && y) (eq-eqb t t refl) (within at w j l m)

module _ (f : Flat) (sel : Selects) (g : Reading) (v : Words) where
  -- where the value of an assignment is right, so are its pieces; and likewise for a process
  abbrev pub AssignGives : Target × Expr → Type 0
  AssignGives a = IsWord g (value_tree (size_in f) sel a.0 a.1) (target_size (size_in f) a.0) (value v a.1 (value_size (size_in f) a.0 a.1))
      → (x : ℕ) → is_variable f x ≡ false → Each (IsRight g (v x)) (pieces (size_in f) x a.0 (value_tree (size_in f) sel a.0 a.1))

  abbrev pub finished : Stmt → ℕ → Tree
  finished body x = wire_tree (size_in f) sel body x

  abbrev pub CombGives : Stmt → Type 0
  CombGives body = (x : ℕ) → assigns body x ≡ true → width (finished body x) ≡ size_in f x
      → ((i : ℕ) → i < size_in f x → may_assign (size_in f) body x i ≡ true → bit g (finished body x) i ≡ run_blocking (size_in f) body v x i)
      → Each (IsRight g (v x)) (comb_pieces (size_in f) sel x body)

  -- an assigned value has its value where it reads good bits
  pub value_word : (good : Bits) → Shows g v (inside f) good sel → (a : Target × Expr) → Fits (size_in f) (MayBe (inside f)) a.1 → AllIn good (expr_reads (size_in f) a.1)
      → IsWord g (value_tree (size_in f) sel a.0 a.1) (target_size (size_in f) a.0) (value v a.1 (value_size (size_in f) a.0 a.1))
  value_word good shows a h k =
      let n = value_size (size_in f) a.0 a.1 in
      let p = expression_law g v (size_in f) (inside f) good sel shows a.1 h k n (omega arith) in
      let q : IsWord g (tree (size_in f) sel a.1 n) n (value v a.1 n) = record { wide = p.0; bits = p.1 } in
      as_word g (cut_word g q 0 (target_size (size_in f) a.0) (omega arith)) (λ j m. ap (value v a.1 n) (zero-add j))

-- values v of a design's signals, over selects that are its trees
module _ (f : Flat) (sound : IsSound f) (sel : Selects) (are : AreTrees f sel) (g : Reading) (v : Words)
    (variables : (s i : ℕ) → i < size_in f s → is_variable f s ≡ true → v s i ≡ g (bit_of s i))
    (undriven : (s i : ℕ) → i < size_in f s → is_variable f s ≡ false → drivers f s i ≡ 0 → v s i ≡ false) where
  -- each piece with the bit has the values v
  abbrev pub RightAt : (sig at : ℕ) → Type 0
  RightAt s i = is_variable f s ≡ false → Each (λ p. is_within p.at p.bits i ≡ true → IsRight g (v s) p) (driven f s sel)

  wire_met : (s at w : ℕ) → is_variable f s ≡ false → ((j : ℕ) → at ≤ j → j < at + w → RightAt s j) → AreMet g (v s) at w 0 (pieces_of f sel s) (size_in f s)
  wire_met s at w e right = to_met g (v s) at w (pieces_of f sel s) 0 (size_in f s) (pieces_ascend f s sel sound)
      (λ i l m z. undriven s i m e (let a = driven_times f s sel i m in let b = times_in_order (driven f s sel) i in omega arith))
      (all_in_order (IsMetRight g (v s) at w) (driven f s sel) (each_map (λ p h l. h (max at p.at) (omega arith) (omega arith) (within p.at p.bits (max at p.at) (omega arith) (omega arith))) (driven f s sel)
      (each_swap (λ j p. at ≤ j → j < at + w → is_within p.at p.bits j ≡ true → IsRight g (v s) p) (driven f s sel) each)))
    where
      each : (j : ℕ) → Each (λ p. at ≤ j → j < at + w → is_within p.at p.bits j ≡ true → IsRight g (v s) p) (driven f s sel)
      each j = by_lt (λ u. Each (λ p. at ≤ j → j < at + w → is_within p.at p.bits j ≡ true → IsRight g (v s) p) (driven f s sel)) j at
          (λ l. each_all (λ p k m. never 0 (omega arith)) (driven f s sel))
          (λ l. by_lt (λ u. Each (λ p. at ≤ j → j < at + w → is_within p.at p.bits j ≡ true → IsRight g (v s) p) (driven f s sel)) j (at + w)
          (λ k. each_map (λ p h a b. h) (driven f s sel) (right j l k e))
          (λ k. each_all (λ p a b. never 0 (omega arith)) (driven f s sel)))

  pub select_word : (s at w : ℕ) → inside f s at w ≡ true → ((j : ℕ) → at ≤ j → j < at + w → RightAt s j) → IsWord g (sel s at w) w (λ i. v s (at + i))
  select_word s at w h right = subst (λ (t : Tree). IsWord g t w (λ i. v s (at + i))) (sym (are s at w)) (go (is_variable f s) refl)
    where
      room : at + w ≤ size_in f s
      room = leb-true (at + w) (size_in f s) (and_parts (nat_lt 0 w) (nat_le (at + w) (size_in f s)) h).1

      go : (u : Bool) → is_variable f s ≡ u → IsWord g (cond u (cut (size_in f s) at w (Var s (size_in f s))) (wire_select (pieces_of f sel s) at w)) w (λ i. v s (at + i))
      go true e =
          let p : IsWord g (Var s (size_in f s)) (size_in f s) (v s) = record { wide = refl; bits = λ i l. sym (variables s i l e) } in
          cut_word g p at w room
      go false e = let p = select_law g (v s) (pieces_of f sel s) (size_in f s) at w room (sound.sized s) (wire_met s at w e right) in record { wide = p.0; bits = p.1 }

  module _ (give : Each (AssignGives f sel g v) f.assigns) (gives : Each (CombGives f sel g v) f.combs) where
    -- one bit, the ones that it is made of being right
    module _ (s i : ℕ) (l : i < size_in f s) (wire : is_variable f s ≡ false) (below : (t j : ℕ) → made_of f s i t j ≡ true → RightAt t j) where
      shows : Shows g v (inside f) (made_of f s i) sel
      shows t at w h k = let p = select_word t at w h (λ j a b. below t j (k t j (in_span t at w j a b))) in (p.wide, p.bits)

      abbrev AreRight : List Piece → Type 0
      AreRight ps = Each (λ p. is_within p.at p.bits i ≡ true → IsRight g (v s) p) ps

      absent : (ps : List Piece) → times ps i ≡ 0 → AreRight ps
      absent ps h = each_map (λ p e k. never_same (sym k ∙ e)) ps (none_within ps i h)

      assigned_right : (as_ : List (Target × Expr)) → Each (IsSoundAssign f) as_ → Each (AssignGives f sel g v) as_
          → AllIn (made_of f s i) (made_by_assigns (size_in f) as_ s i) → AreRight (assigned_pieces (size_in f) sel s as_)
      assigned_right [] h k o = tt
      assigned_right (a ∷ as_) h k o = all_both (λ p. is_within p.at p.bits i ≡ true → IsRight g (v s) p) (pieces (size_in f) s a.0 _) (assigned_pieces (size_in f) sel s as_)
          (by_bool (covers (size_in f) a.0 s i)
          (λ e. let good : AllIn (made_of f s i) (expr_reads (size_in f) a.1) = (λ t j m. o t j (ap₂ (λ x y. (x && y) || made_by_assigns (size_in f) as_ s i t j) e m)) in
          each_map (λ p r q. r) (pieces (size_in f) s a.0 _) (k.0 (value_word f sel g v (made_of f s i) shows a h.0.0 good) s wire))
          (λ e. absent (pieces (size_in f) s a.0 _) (pieces_times (size_in f) s a.0 _ i ∙ not_covered (size_in f) s a.0 i e)))
          (assigned_right as_ h.1 k.1 (right_in (made_of f s i) (λ t j. covers (size_in f) a.0 s i && expr_reads (size_in f) a.1 t j) (made_by_assigns (size_in f) as_ s i) o))

      combs_right : (bs : List Stmt) → Each (IsSoundComb f) bs → Each (CombGives f sel g v) bs → AllIn (made_of f s i) (made_by_combs (size_in f) bs s i) → AreRight (all_comb_pieces (size_in f) sel s bs)
      combs_right [] h k o = tt
      combs_right (b ∷ bs) h k o = all_both (λ p. is_within p.at p.bits i ≡ true → IsRight g (v s) p) (comb_pieces (size_in f) sel s b) (all_comb_pieces (size_in f) sel s bs)
          (by_bool (may_assign (size_in f) b s i)
          (λ e. let good : AllIn (made_of f s i) (wire_deps (size_in f) b s) = (λ t j m. o t j (ap₂ (λ x y. (x && y) || made_by_combs (size_in f) bs s i t j) e m)) in
          let local = by_bool (assigns b s) (λ z. z) (λ z. never_same (sym e ∙ not_assigned (size_in f) s b i z)) in
          let p = comb_law g v (size_in f) (inside f) (made_of f s i) sel sound.sized shows b h.0.fits s local good in
          each_map (λ p r q. r) (comb_pieces (size_in f) sel s b) (k.0 s local p.0 (λ j m z. p.1 j m (h.0.no_latch s j m z))))
          (λ e. absent (comb_pieces (size_in f) sel s b) (comb_times f s sel b i l ∙ ap once e)))
          (combs_right bs h.1 k.1 (right_in (made_of f s i) (λ t j. may_assign (size_in f) b s i && wire_deps (size_in f) b s t j) (made_by_combs (size_in f) bs s i) o))

      bit_right : AreRight (driven f s sel)
      bit_right =
          let all : AllIn (made_of f s i) (λ t j. made_by_assigns (size_in f) f.assigns s i t j || made_by_combs (size_in f) f.combs s i t j) =
          (λ t j m. ap₂ (λ x y. x && y) (lt-ltb i (size_in f s) l) m) in
          all_both (λ p. is_within p.at p.bits i ≡ true → IsRight g (v s) p) (assigned_pieces (size_in f) sel s f.assigns) (all_comb_pieces (size_in f) sel s f.combs)
          (assigned_right f.assigns (each_of _ f.assigns sound.assigned) give (left_in (made_of f s i) (made_by_assigns (size_in f) f.assigns s i) (made_by_combs (size_in f) f.combs s i) all))
          (combs_right f.combs (each_of _ f.combs sound.processed) gives (right_in (made_of f s i) (made_by_assigns (size_in f) f.assigns s i) (made_by_combs (size_in f) f.combs s i) all))

    -- a bit past the signal is in no piece
    or_past : (s i : ℕ) → (i < size_in f s → RightAt s i) → RightAt s i
    or_past s i h e = by_lt (λ u. Each (λ p. is_within p.at p.bits i ≡ true → IsRight g (v s) p) (driven f s sel)) i (size_in f s)
        (λ l. h l e)
        (λ l. each_map (λ p z k. never_same (sym k ∙ z)) (driven f s sel) (none_within (driven f s sel) i (none_past (size_in f s) (driven f s sel) i (driven_in f s sel sound) l)))

    pub right : (n s i : ℕ) → IsDeep f n s i → RightAt s i
    right zero s i deep = or_past s i (λ l e. bit_right s i l e (λ t j m. never_same (sym m ∙ deep t j)))
    right (suc n) s i deep = or_past s i (λ l e. bit_right s i l e (λ t j m. right n t j (deep t j m)))
