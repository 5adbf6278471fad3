-- Trees over selects that are the same where good bits are read are the same.
use Rattle.std.proofs.Common.{◌≡◌, ℕ, ◌*◌, Bool, true, false, cond, ◌||◌, ◌==◌, refl, sym, ap, ap₂, ◌∙◌, eq-eqb}
use Rattle.cell_graph.specs.Tree.{Tree, Const, Eq, Or, Mux, Slice, Shr}
use Rattle.flat_meaning.specs.Flat.{BinaryOp, Expr, Number, Read, At, Unary, Binary, Choose, Gate, Join, Repeat, Exprs, no_exprs, expr, Target, Whole, Part, Pick, Group, Targets, no_targets, target, Stmt, Null, Set, If, Case, Block, Items, no_items, default_item, item, Stmts, no_stmts, stmt, size, sizes, case_size, target_size, target_sizes, value_size, is_target, are_targets, assigns, case_assigns, all_assign}
use Rattle.flat_meaning.specs.Meaning.{unary_at, left_at, right_at}
use Rattle.flat_meaning.specs.Full.{is_full}
use Rattle.flat_meaning.specs.Trees.{Selects, Trees, fit, cut, glue, truth, copies_tree, unary_tree, binary_tree, change_tree, part_tree, picked, merge, tree, joined_tree, gate_tree, gate_on, value_tree, any_label, label_tree, put_tree, put_trees, after, after_case, after_all}
use Rattle.flat_meaning.specs.Fits.{Fits, AllFit}
use Rattle.flat_meaning.specs.Assigned.{Done, surely, FitsTarget, FitTargets, FitsStmt, FitItems, FitStmts}
use Rattle.flat_meaning.specs.Deps.{Bits, union, Deps, is_all, AllIn, none, span, replace, merge_deps, reads, all_reads, put_deps, puts_deps, deps, case_deps, all_deps, through_wires, wire_deps}
use Rattle.flat_meaning.specs.Law.{Readable, MayBe, MayRead, present, wire_tree, IsComb, expr_reads}
use Rattle.flat_meaning.proofs.Targets.{AreLocal, local_first, local_second, left_in, right_in, OkAndGood, both_fit, all_fit, part_all}

-- ---- expressions

module _ (wid : ℕ → ℕ) (sel other : Selects) (ok : (sig at width : ℕ) → Type 0) (same : (s at w : ℕ) → ok s at w → sel s at w ≡ other s at w) where
  mutual
    pub tree_same : (e : Expr) → Fits wid ok e → (W : ℕ) → tree wid sel e W ≡ tree wid other e W
    tree_same (Number w n) f W = refl
    tree_same (Read s at w) f W = ap (fit W w) (same s at w f)
    tree_same (At s e) f W = ap₂ (λ x y. fit W 1 (Slice (Shr x y) 0 1)) (same s 0 (wid s) f.0) (tree_same e f.2 (size e))
    tree_same (Unary op a) f W = ap (unary_tree op W (unary_at op W (size a))) (tree_same a f (unary_at op W (size a)))
    tree_same (Binary op a b) f W = ap₂ (binary_tree op W (left_at op W (size a) (size b)) (right_at op W (size a) (size b))) (tree_same a f.1 (left_at op W (size a) (size b))) (tree_same b f.2 (right_at op W (size a) (size b)))
    tree_same (Choose c x y) f W = ap₂ (λ p q. Mux (truth (size c) p) q (tree wid sel y W)) (tree_same c f.0 (size c)) (tree_same x f.1 W) ∙ ap (Mux (truth (size c) (tree wid other c (size c))) (tree wid other x W)) (tree_same y f.2 W)
    tree_same (Gate op es) f W = gate_same op es f.2 W
    tree_same (Join es) f W = ap (fit W (sizes es)) (joined_same es f.1)
    tree_same (Repeat n es) f W = ap (λ t. fit W (n * sizes es) (copies_tree n (sizes es) t)) (joined_same es f.2)

    joined_same : (es : Exprs) → AllFit wid ok es → joined_tree wid sel es ≡ joined_tree wid other es
    joined_same no_exprs f = refl
    joined_same (expr e es) f = ap₂ (λ x y. glue (size e) x (sizes es) y) (tree_same e f.0 (size e)) (joined_same es f.1)

    gate_same : (op : BinaryOp) (es : Exprs) → AllFit wid ok es → (W : ℕ) → gate_tree wid sel op W es ≡ gate_tree wid other op W es
    gate_same op no_exprs f W = refl
    gate_same op (expr e es) f W = gate_on_same op es f.1 W _ _ (tree_same e f.0 W)

    gate_on_same : (op : BinaryOp) (es : Exprs) → AllFit wid ok es → (W : ℕ) (t u : Tree) → t ≡ u → gate_on wid sel op W t es ≡ gate_on wid other op W u es
    gate_on_same op no_exprs f W t u h = h
    gate_on_same op (expr e es) f W t u h = gate_on_same op es f.1 W _ _ (ap₂ (binary_tree op W W W) h (tree_same e f.0 W))

  any_label_same : (w : ℕ) (x y : Tree) → x ≡ y → (es : Exprs) → AllFit wid ok es → (t u : Tree) → t ≡ u → any_label wid sel w x t es ≡ any_label wid other w y u es
  any_label_same w x y h no_exprs f t u k = k
  any_label_same w x y h (expr e es) f t u k = any_label_same w x y h es f.1 _ _ (ap₂ Or k (ap₂ Eq h (tree_same e f.0 w)))

  pub label_same : (w : ℕ) (x y : Tree) → x ≡ y → (es : Exprs) → AllFit wid ok es → label_tree wid sel w x es ≡ label_tree wid other w y es
  label_same w x y h no_exprs f = refl
  label_same w x y h (expr e es) f = any_label_same w x y h es f.1 _ _ (ap₂ Eq h (tree_same e f.0 w))

-- ---- statements

module _ (wid : ℕ → ℕ) (is_local : ℕ → Bool) (g : Bits) where
  -- signals that a process assigns have the same trees where these are made of good bits
  abbrev Alike : Deps → Trees → Trees → Type 0
  Alike m ts us = (x : ℕ) → is_local x ≡ true → AllIn g (m x) → ts x ≡ us x

  changed_alike : (s : ℕ) (t u : Tree) (b : Bits) (m : Deps) (ts us : Trees) → (AllIn g b → t ≡ u) → Alike m ts us → Alike (replace s b m) (change_tree s t ts) (change_tree s u us)
  changed_alike s t u b m ts us h a x l = go (x == s)
    where
      go : (v : Bool) → AllIn g (cond v b (m x)) → cond v t (ts x) ≡ cond v u (us x)
      go true o = h o
      go false o = a x l o

  merge_alike : (assigned : ℕ → Bool) (c d : Tree) (b : Bits) (m o p : Deps) (x y z x' y' z' : Trees) → (AllIn g b → c ≡ d) → Alike m x x' → Alike o y y' → Alike p z z'
      → Alike (merge_deps assigned b m o p) (merge assigned c x y z) (merge assigned d x' y' z')
  merge_alike assigned c d b m o p x y z x' y' z' h i j k s l = go (assigned s)
    where
      go : (v : Bool) → AllIn g (cond v (union b (union (m s) (o s))) (p s)) → cond v (Mux c (x s) (y s)) (z s) ≡ cond v (Mux d (x' s) (y' s)) (z' s)
      go true n =
          let rest = right_in g b (union (m s) (o s)) n in
          ap₂ (λ e f. Mux e f (y s)) (h (left_in g b (union (m s) (o s)) n)) (i s l (left_in g (m s) (o s) rest)) ∙ ap (Mux d (x' s)) (j s l (right_in g (m s) (o s) rest))
      go false n = k s l n

  either_alike : (full : Bool) (m o : Deps) (x y x' y' : Trees) → Alike m x x' → Alike o y y' → Alike (cond full m o) (cond full x y) (cond full x' y')
  either_alike true m o x y x' y' h k = h
  either_alike false m o x y x' y' h k = k

  module _ (ok : Done → (sig at width : ℕ) → Type 0) (through : Deps → (sig at width : ℕ) → Bits) where
    module _ (before : Done) (sel other : Selects) (o : Deps) (sees : (s at w : ℕ) → ok before s at w → AllIn g (through o s at w) → sel s at w ≡ other s at w) where
      good_same : (e : Expr) → Fits wid (ok before) e → AllIn g (reads wid through o e) → (W : ℕ) → tree wid sel e W ≡ tree wid other e W
      good_same e f h = tree_same wid sel other (OkAndGood wid (ok before) g through o) (λ s at w k. sees s at w k.0 k.1) e (both_fit wid (ok before) g through o e f h)

      labels_same : (w : ℕ) (x y : Tree) → x ≡ y → (es : Exprs) → AllFit wid (ok before) es → AllIn g (all_reads wid through o es) → label_tree wid sel w x es ≡ label_tree wid other w y es
      labels_same w x y h es f k = label_same wid sel other (OkAndGood wid (ok before) g through o) (λ s at w k. sees s at w k.0 k.1) w x y h es (all_fit wid (ok before) g through o es f k)

      mutual
        put_alike : (t : Target) (m : Deps) (ts us : Trees) (p q : Tree) (b : Bits) → AreLocal is_local (is_target t) → FitsTarget wid ok before t → (AllIn g b → p ≡ q) → Alike m ts us
            → Alike (put_deps wid through o t b m) (put_tree wid sel t p ts) (put_tree wid other t q us)
        put_alike (Whole s) m ts us p q b own l h a = changed_alike s p q b m ts us h a
        put_alike (Part s at w) m ts us p q b own l h a = changed_alike s _ _ _ m ts us (go (is_all (wid s) w) refl) a
          where
            go : (u : Bool) → is_all (wid s) w ≡ u → AllIn g (cond u b (union b (m s))) → part_tree (wid s) at w p (ts s) ≡ part_tree (wid s) at w q (us s)
            go true e k = part_all (wid s) at w p (ts s) e l ∙ h k ∙ sym (part_all (wid s) at w q (us s) e l)
            go false e k = ap₂ (part_tree (wid s) at w) (h (left_in g b (m s) k)) (a s (own s (eq-eqb s s refl)) (right_in g b (m s) k))
        put_alike (Pick s e) m ts us p q b own l h a = changed_alike s _ _ (union (reads wid through o e) (union b (m s))) m ts us
            (λ k. let rest = right_in g (reads wid through o e) (union b (m s)) k in
            ap₂ (λ x y. picked x (size e) y (ts s) (wid s)) (good_same e l.1 (left_in g (reads wid through o e) (union b (m s)) k) (size e)) (h (left_in g b (m s) rest))
            ∙ ap (λ x. picked (tree wid other e (size e)) (size e) q x (wid s)) (a s (own s (eq-eqb s s refl)) (right_in g b (m s) rest))) a
        put_alike (Group gs) m ts us p q b own l h a = puts_alike gs m ts us p q b own l h a

        puts_alike : (gs : Targets) (m : Deps) (ts us : Trees) (p q : Tree) (b : Bits) → AreLocal is_local (are_targets gs) → FitTargets wid ok before gs → (AllIn g b → p ≡ q) → Alike m ts us
            → Alike (puts_deps wid through o gs b m) (put_trees wid sel gs p ts) (put_trees wid other gs q us)
        puts_alike no_targets m ts us p q b own l h a = a
        puts_alike (target t gs) m ts us p q b own l h a =
            puts_alike gs (put_deps wid through o t b m) _ _ p q b (local_second is_local (is_target t) (are_targets gs) own) l.1 h
            (put_alike t m ts us (Slice p (target_sizes wid gs) (target_size wid t)) (Slice q (target_sizes wid gs) (target_size wid t)) b
            (local_first is_local (is_target t) (are_targets gs) own) l.0 (λ k. ap (λ x. Slice x (target_sizes wid gs) (target_size wid t)) (h k)) a)

    module _ (look view : Trees → Selects) (sees : (d : Done) (m : Deps) (ts us : Trees) → Alike m ts us → (s at w : ℕ) → ok d s at w → AllIn g (through m s at w) → look ts s at w ≡ view us s at w) where
      mutual
        pub after_alike : (s : Stmt) (d : Done) (m : Deps) (ts us : Trees) → AreLocal is_local (assigns s) → FitsStmt wid ok d s → Alike m ts us → Alike (deps wid through s m) (after wid look s ts) (after wid view s us)
        after_alike Null d m ts us own h a = a
        after_alike (Set b t e) d m ts us own h a =
            put_alike d (look ts) (view us) m (sees d m ts us a) t m ts us _ _ (reads wid through m e) own h.1
            (λ k. ap (cut (value_size wid t e) 0 (target_size wid t)) (good_same d (look ts) (view us) m (sees d m ts us a) e h.0 k (value_size wid t e))) a
        after_alike (If c x y) d m ts us own h a =
            merge_alike (λ z. assigns x z || assigns y z) _ _ (reads wid through m c) (deps wid through x m) (deps wid through y m) m _ _ ts _ _ us
            (λ k. ap (truth (size c)) (good_same d (look ts) (view us) m (sees d m ts us a) c h.0 k (size c)))
            (after_alike x d m ts us (local_first is_local (assigns x) (assigns y) own) h.1 a) (after_alike y d m ts us (local_second is_local (assigns x) (assigns y) own) h.2 a) a
        after_alike (Case e is) d m ts us own h a =
            case_alike (is_full (case_size e is) is) (case_size e is) _ _ (reads wid through m e) d m ts us
            (λ k. good_same d (look ts) (view us) m (sees d m ts us a) e h.0 k (case_size e is)) a is m ts us own h.1 a
        after_alike (Block ss) d m ts us own h a = all_alike ss d m ts us own h a

        case_alike : (full : Bool) (w : ℕ) (p q : Tree) (b : Bits) (d : Done) (m : Deps) (ts us : Trees) → (AllIn g b → p ≡ q) → Alike m ts us
            → (is : Items) (om : Deps) (ot ou : Trees) → AreLocal is_local (case_assigns is) → FitItems wid ok d is → Alike om ot ou
            → Alike (case_deps wid through full b om is m) (after_case wid look full w p ot is ts) (after_case wid view full w q ou is us)
        case_alike full w p q b d m ts us h a no_items om ot ou own k z = z
        case_alike full w p q b d m ts us h a (default_item body) om ot ou own k z = after_alike body d m ts us own k a
        case_alike full w p q b d m ts us h a (item ls body rest) om ot ou own k z =
            let y = after_alike body d m ts us (local_first is_local (assigns body) (case_assigns rest) own) k.1 a in
            merge_alike (λ z. assigns body z || case_assigns rest z) _ _ (union b (all_reads wid through m ls)) (deps wid through body m) _ m _ _ ts _ _ us
            (λ n. labels_same d (look ts) (view us) m (sees d m ts us a) w p q (h (left_in g b (all_reads wid through m ls) n)) ls k.0 (right_in g b (all_reads wid through m ls) n))
            y (case_alike full w p q b d m ts us h a rest _ _ _ (local_second is_local (assigns body) (case_assigns rest) own) k.2 (either_alike full _ om _ ot _ ou y z)) a

        all_alike : (ss : Stmts) (d : Done) (m : Deps) (ts us : Trees) → AreLocal is_local (all_assign ss) → FitStmts wid ok d ss → Alike m ts us → Alike (all_deps wid through ss m) (after_all wid look ss ts) (after_all wid view ss us)
        all_alike no_stmts d m ts us own h a = a
        all_alike (stmt s ss) d m ts us own h a = all_alike ss (surely wid s d) (deps wid through s m) _ _ (local_second is_local (assigns s) (all_assign ss) own) h.1
            (after_alike s d m ts us (local_first is_local (assigns s) (all_assign ss) own) h.0 a)

-- ---- drivers

module _ (wid : ℕ → ℕ) (ok : Readable) (good : Bits) (sel other : Selects) (same : (s at w : ℕ) → ok s at w ≡ true → AllIn good (span s at w) → sel s at w ≡ other s at w) where
  pub value_same : (t : Target) (e : Expr) → Fits wid (MayBe ok) e → AllIn good (expr_reads wid e) → value_tree wid sel t e ≡ value_tree wid other t e
  value_same t e f h = ap (cut (value_size wid t e) 0 (target_size wid t))
      (tree_same wid sel other (OkAndGood wid (MayBe ok) good (λ d. span) (λ x i j. false)) (λ s at w q. same s at w q.0 q.1) e (both_fit wid (MayBe ok) good (λ d. span) (λ x i j. false) e f h) (value_size wid t e))

  pub wire_same : (body : Stmt) → IsComb wid ok body → (x : ℕ) → assigns body x ≡ true → AllIn good (wire_deps wid body x)
      → wire_tree wid sel body x ≡ wire_tree wid other body x
  wire_same body fits = after_alike wid (assigns body) good (MayRead wid ok (assigns body)) (through_wires (assigns body)) (present wid sel (assigns body)) (present wid other (assigns body)) sees
      body (λ x i. false) (λ x. none) (λ s. Const (wid s) 0) (λ s. Const (wid s) 0) (λ x h. h) fits (λ x l o. refl)
    where
      sees : (d : Done) (m : Deps) (ts us : Trees) → Alike wid (assigns body) good m ts us → (s at w : ℕ) → MayRead wid ok (assigns body) d s at w → AllIn good (through_wires (assigns body) m s at w)
          → present wid sel (assigns body) ts s at w ≡ present wid other (assigns body) us s at w
      sees d m ts us a s at w h k = go ((assigns body) s) refl k
        where
          go : (u : Bool) → (assigns body) s ≡ u → AllIn good (cond u (m s) (span s at w)) → cond u (cut (wid s) at w (ts s)) (sel s at w) ≡ cond u (cut (wid s) at w (us s)) (other s at w)
          go true e k = ap (cut (wid s) at w) (a s e k)
          go false e k = same s at w (h.0 e) k
