-- The trees of a process have the values that executing it gives.
use Rattle.std.proofs.Common.{◌≡◌, ℕ, ◌+◌, ◌<◌, ◌≤◌, Bool, true, false, cond, ◌&&◌, ◌||◌, ◌==◌, refl, sym, ap, subst, ◌∙◌, arith, le_refl, zero-add}
use Rattle.std.proofs.lemmas.Bool.{and_parts, or_parts}
use Rattle.std.proofs.Math.Bool.{or-false, or_assoc}
use Rattle.cell_graph.specs.Tree.{Tree, Mux, number, width, bit}
use Rattle.cell_graph.specs.Reading.{Reading}
use Rattle.flat_meaning.specs.Values.{Word, Words}
use Rattle.flat_meaning.specs.Flat.{Expr, Exprs, no_exprs, expr, Target, Whole, Part, Pick, Group, Targets, no_targets, target, Stmt, Null, Set, If, Case, Block, Items, no_items, default_item, item, Stmts, no_stmts, stmt, size, largest, largest_label, case_size, target_size, value_size, is_target, are_targets, assigns, case_assigns, all_assign}
use Rattle.flat_meaning.specs.Full.{is_full, is_met}
use Rattle.flat_meaning.specs.Law.{AreWords}
use Rattle.flat_meaning.specs.Meaning.{value, is_true, is_one_of, run, run_case, run_all}
use Rattle.flat_meaning.specs.Trees.{Trees, Selects, tree, truth_of, value_tree, part_tree, picked, merge, any_label, label_tree, put_tree, put_trees, after, after_case, after_all}
use Rattle.flat_meaning.specs.Fits.{Fits, AllFit}
use Rattle.flat_meaning.specs.Deps.{Bits, union, Deps, AllIn, merge_deps, reads, all_reads, put_deps, puts_deps, deps, case_deps, all_deps}
use Rattle.flat_meaning.specs.Assigned.{Done, surely, surely_case, surely_all, FitsStmt, FitItems, FitStmts}
use Rattle.flat_meaning.proofs.Words.{never_same, IsWord, as_word, zero_word, or_word, eq_word, cut_word, truth_word}
use Rattle.flat_meaning.proofs.Expressions.{tree_word}
use Rattle.flat_meaning.proofs.Full.{full_law}
use Rattle.flat_meaning.proofs.Targets.{AreLocal, local_first, local_second, left_in, right_in, OkAndGood, all_fit, Agree, good_word, put_agree}

pub other : {A : Type 0} (u : Bool) (x y : A) → u ≡ false → cond u x y ≡ y
other true x y h = never_same h
other false x y h = refl

-- what isn't assigned keeps its tree
module _ (wid : ℕ → ℕ) where
  module _ (sel : Selects) where
    mutual
      put_kept : (t : Target) (new : Tree) (ts : Trees) (x : ℕ) → is_target t x ≡ false → put_tree wid sel t new ts x ≡ ts x
      put_kept (Whole s) new ts x h = other (x == s) new (ts x) h
      put_kept (Part s at w) new ts x h = other (x == s) (part_tree (wid s) at w new (ts s)) (ts x) h
      put_kept (Pick s e) new ts x h = other (x == s) (picked (tree wid sel e (size e)) (size e) new (ts s) (wid s)) (ts x) h
      put_kept (Group gs) new ts x h = puts_kept gs new ts x h

      puts_kept : (gs : Targets) (new : Tree) (ts : Trees) (x : ℕ) → are_targets gs x ≡ false → put_trees wid sel gs new ts x ≡ ts x
      puts_kept no_targets new ts x h = refl
      puts_kept (target g gs) new ts x h = let k = or_parts (is_target g x) (are_targets gs x) h in puts_kept gs new (put_tree wid sel g _ ts) x k.1 ∙ put_kept g _ ts x k.0

  module _ (look : Trees → Selects) where
    mutual
      kept : (s : Stmt) (ts : Trees) (x : ℕ) → assigns s x ≡ false → after wid look s ts x ≡ ts x
      kept Null ts x h = refl
      kept (Set b t e) ts x h = put_kept (look ts) t _ ts x h
      kept (If c y z) ts x h = other _ _ (ts x) h
      kept (Case e is) ts x h = case_kept _ _ _ ts is ts x h refl
      kept (Block ss) ts x h = all_kept ss ts x h

      case_kept : (full : Bool) (w : ℕ) (subject : Tree) (otherwise : Trees) (is : Items) (ts : Trees) (x : ℕ) → case_assigns is x ≡ false → otherwise x ≡ ts x
          → after_case wid look full w subject otherwise is ts x ≡ ts x
      case_kept full w subject otherwise no_items ts x h o = o
      case_kept full w subject otherwise (default_item body) ts x h o = kept body ts x h
      case_kept full w subject otherwise (item ls body rest) ts x h o = other _ _ (ts x) h

      all_kept : (ss : Stmts) (ts : Trees) (x : ℕ) → all_assign ss x ≡ false → after_all wid look ss ts x ≡ ts x
      all_kept no_stmts ts x h = refl
      all_kept (stmt s ss) ts x h = let k = or_parts (assigns s x) (all_assign ss x) h in all_kept ss (after wid look s ts) x k.1 ∙ kept s ts x k.0

-- and keeps what it is made of
module _ (wid : ℕ → ℕ) (through : Deps → (sig at width : ℕ) → Bits) where
  mutual
    put_deps_kept : (r : Deps) (t : Target) (b : Bits) (m : Deps) (x : ℕ) → is_target t x ≡ false → put_deps wid through r t b m x ≡ m x
    put_deps_kept r (Whole s) b m x h = other (x == s) b (m x) h
    put_deps_kept r (Part s at w) b m x h = other (x == s) _ (m x) h
    put_deps_kept r (Pick s e) b m x h = other (x == s) (union (reads wid through r e) (union b (m s))) (m x) h
    put_deps_kept r (Group gs) b m x h = puts_deps_kept r gs b m x h

    puts_deps_kept : (r : Deps) (gs : Targets) (b : Bits) (m : Deps) (x : ℕ) → are_targets gs x ≡ false → puts_deps wid through r gs b m x ≡ m x
    puts_deps_kept r no_targets b m x h = refl
    puts_deps_kept r (target g gs) b m x h = let k = or_parts (is_target g x) (are_targets gs x) h in puts_deps_kept r gs b (put_deps wid through r g b m) x k.1 ∙ put_deps_kept r g b m x k.0

  mutual
    deps_kept : (s : Stmt) (m : Deps) (x : ℕ) → assigns s x ≡ false → deps wid through s m x ≡ m x
    deps_kept Null m x h = refl
    deps_kept (Set b t e) m x h = put_deps_kept m t (reads wid through m e) m x h
    deps_kept (If c y z) m x h = other _ _ (m x) h
    deps_kept (Case e is) m x h = case_deps_kept _ _ m is m x h refl
    deps_kept (Block ss) m x h = all_deps_kept ss m x h

    case_deps_kept : (full : Bool) (b : Bits) (otherwise : Deps) (is : Items) (m : Deps) (x : ℕ) → case_assigns is x ≡ false → otherwise x ≡ m x → case_deps wid through full b otherwise is m x ≡ m x
    case_deps_kept full b otherwise no_items m x h o = o
    case_deps_kept full b otherwise (default_item body) m x h o = deps_kept body m x h
    case_deps_kept full b otherwise (item ls body rest) m x h o = other _ _ (m x) h

    all_deps_kept : (ss : Stmts) (m : Deps) (x : ℕ) → all_assign ss x ≡ false → all_deps wid through ss m x ≡ m x
    all_deps_kept no_stmts m x h = refl
    all_deps_kept (stmt s ss) m x h = let k = or_parts (assigns s x) (all_assign ss x) h in all_deps_kept ss (deps wid through s m) x k.1 ∙ deps_kept s m x k.0

-- a case as its trees have it: with what is left where no label is met, which in a full case is what the last item leaves
module _ (wid : ℕ → ℕ) (now : Words → Words) (w : ℕ) (f : Word) where
  abbrev closed_run : (full : Bool) → (otherwise : Words) → Items → Words → Words
  closed_run full otherwise no_items v = otherwise
  closed_run full otherwise (default_item body) v = run wid now body v
  closed_run full otherwise (item ls body rest) v = cond (is_one_of (now v) w f ls) (run wid now body v) (closed_run full (cond full (run wid now body v) otherwise) rest v)

  open_same : (v : Words) (is : Items) → closed_run false v is v ≡ run_case wid now w f is v
  open_same v no_items = refl
  open_same v (default_item body) = refl
  open_same v (item ls body rest) = ap (cond (is_one_of (now v) w f ls) (run wid now body v)) (open_same v rest)

  full_same : (otherwise v : Words) (is : Items) → is_met (now v) w f is ≡ true → closed_run true otherwise is v ≡ run_case wid now w f is v
  full_same otherwise v no_items k = never_same (sym k)
  full_same otherwise v (default_item body) k = refl
  full_same otherwise v (item ls body rest) k = go (is_one_of (now v) w f ls) (full_same (run wid now body v) v rest) k
    where
      go : (u : Bool) → (is_met (now v) w f rest ≡ true → closed_run true (run wid now body v) rest v ≡ run_case wid now w f rest v) → (u || is_met (now v) w f rest) ≡ true
          → cond u (run wid now body v) (closed_run true (run wid now body v) rest v) ≡ cond u (run wid now body v) (run_case wid now w f rest v)
      go true h k = refl
      go false h k = h k

  closed_same : (full : Bool) (v : Words) (is : Items) → ((full ≡ true) → is_met (now v) w f is ≡ true) → closed_run full v is v ≡ run_case wid now w f is v
  closed_same true v is k = full_same v v is (k refl)
  closed_same false v is k = open_same v is

-- in a case that isn't full, what is left is what was there
abbrev IsLeft : (full : Bool) → Trees → Deps → Trees → Deps → Type 0
IsLeft full ts m ot om = (x : ℕ) → full ≡ false → (ot x ≡ ts x) × (om x ≡ m x)

left_on : (full : Bool) (ts : Trees) (m : Deps) (ot : Trees) (om : Deps) (us : Trees) (n : Deps) → IsLeft full ts m ot om → IsLeft full ts m (cond full us ot) (cond full n om)
left_on true ts m ot om us n k = λ x h. never_same h
left_on false ts m ot om us n k = k

left_kept : (full : Bool) (ts : Trees) (m : Deps) (ot : Trees) (om : Deps) (us : Trees) (n : Deps) (x : ℕ) → IsLeft full ts m ot om → us x ≡ ts x → n x ≡ m x
    → (cond full us ot x ≡ ts x) × (cond full n om x ≡ m x)
left_kept true ts m ot om us n x k s t = (s, t)
left_kept false ts m ot om us n x k s t = k x refl

module _ (r : Reading) (wid : ℕ → ℕ) (sized : AreWords wid) (is_local : ℕ → Bool) (v : Words) (g : Bits) where
  either_agree : (full : Bool) (d e : Done) (m o : Deps) (ts us : Trees) (st su : Words) → Agree r wid sized is_local v g d m ts st → Agree r wid sized is_local v g e o us su
      → Agree r wid sized is_local v g (cond full d e) (cond full m o) (cond full ts us) (cond full st su)
  either_agree true d e m o ts us st su a z = a
  either_agree false d e m o ts us st su a z = z

  -- a choice of two states that agree with their trees
  merge_agree : (assigned : ℕ → Bool) (c : Tree) (b : Bool) (n : Bits) (d e : Done) (m o p : Deps) (yes_ no_ old : Trees) (st su : Words) → (AllIn g n → IsWord r c 1 (λ i. b))
      → ((x : ℕ) → assigned x ≡ false → (yes_ x ≡ old x) × (no_ x ≡ old x) × (m x ≡ p x) × (o x ≡ p x))
      → Agree r wid sized is_local v g d m yes_ st → Agree r wid sized is_local v g e o no_ su
      → Agree r wid sized is_local v g (λ x i. d x i && e x i) (merge_deps assigned n m o p) (merge assigned c yes_ no_ old) (cond b st su)
  merge_agree assigned c b n d e m o p yes_ no_ old st su word keep a z = record {
    wide = λ x l k. wide_at x (assigned x) refl l k;
    same = λ x l k i h q. same_at x (assigned x) refl l k i h (and_parts (d x i) (e x i) q);
    others = λ x l i. others_at b x l i;
  }
    where
      first : (x : ℕ) → AllIn g (union n (union (m x) (o x))) → AllIn g (m x)
      first x k = left_in g (m x) (o x) (right_in g n (union (m x) (o x)) k)

      second : (x : ℕ) → AllIn g (union n (union (m x) (o x))) → AllIn g (o x)
      second x k = right_in g (m x) (o x) (right_in g n (union (m x) (o x)) k)

      wide_at : (x : ℕ) (u : Bool) → assigned x ≡ u → is_local x ≡ true → AllIn g (cond u (union n (union (m x) (o x))) (p x)) → width (cond u (Mux c (yes_ x) (no_ x)) (old x)) ≡ wid x
      wide_at x true f l k = a.wide x l (first x k)
      wide_at x false f l k = let q = keep x f in ap width (sym q.0) ∙ a.wide x l (subst (AllIn g) (sym q.2) k)

      chosen : (b : Bool) (x i : ℕ) (p q : Bool) → p ≡ st x i → q ≡ su x i → cond b p q ≡ cond b st su x i
      chosen true x i p q h k = h
      chosen false x i p q h k = k

      both_ways : (b : Bool) (x i : ℕ) (p : Bool) → p ≡ st x i → p ≡ su x i → p ≡ cond b st su x i
      both_ways true x i p h k = h
      both_ways false x i p h k = k

      same_at : (x : ℕ) (u : Bool) → assigned x ≡ u → is_local x ≡ true → AllIn g (cond u (union n (union (m x) (o x))) (p x)) → (i : ℕ) → i < wid x → (d x i ≡ true) × (e x i ≡ true)
          → bit r (cond u (Mux c (yes_ x) (no_ x)) (old x)) i ≡ cond b st su x i
      same_at x true f l k i h q = ap (λ y. cond y (bit r (yes_ x) i) (bit r (no_ x) i)) ((word (left_in g n (union (m x) (o x)) k)).bits 0 (omega arith))
          ∙ chosen b x i (bit r (yes_ x) i) (bit r (no_ x) i) (a.same x l (first x k) i h q.0) (z.same x l (second x k) i h q.1)
      same_at x false f l k i h q = let y = keep x f in
          both_ways b x i (bit r (old x) i) (ap (λ t. bit r t i) (sym y.0) ∙ a.same x l (subst (AllIn g) (sym y.2) k) i h q.0)
          (ap (λ t. bit r t i) (sym y.1) ∙ z.same x l (subst (AllIn g) (sym y.3) k) i h q.1)

      others_at : (b : Bool) (x : ℕ) → is_local x ≡ false → (i : ℕ) → cond b st su x i ≡ v x i
      others_at true x l i = a.others x l i
      others_at false x l i = z.others x l i

  module _ (ok : Done → (sig at width : ℕ) → Type 0) (look : Trees → Selects) (now : Words → Words) (through : Deps → (sig at width : ℕ) → Bits)
      (sees : (d : Done) (m : Deps) (ts : Trees) (st : Words) → Agree r wid sized is_local v g d m ts st → (s at w : ℕ) → ok d s at w → AllIn g (through m s at w) → IsWord r (look ts s at w) w (λ i. now st s (at + i))) where
    module _ (d : Done) (m : Deps) (ts : Trees) (st : Words) (a : Agree r wid sized is_local v g d m ts st) where
      word_of : (e : Expr) → Fits wid (ok d) e → AllIn g (reads wid through m e) → (W : ℕ) → size e ≤ W → IsWord r (tree wid (look ts) e W) W (value (now st) e W)
      word_of = good_word r wid sized is_local v g ok d (look ts) (now st) through m (sees d m ts st a)

      module _ (w : ℕ) (subject : Tree) (f : Word) (p : IsWord r subject w f) where
        at_word : (e : Expr) → Fits wid (OkAndGood wid (ok d) g through m) e → (W : ℕ) → size e ≤ W → IsWord r (tree wid (look ts) e W) W (value (now st) e W)
        at_word e h W l = tree_word r (now st) wid (look ts) (OkAndGood wid (ok d) g through m) (λ s at w k. sees d m ts st a s at w k.0 k.1) e h W l

        any_label_word : (es : Exprs) (t : Tree) (b : Bool) → AllFit wid (OkAndGood wid (ok d) g through m) es → largest es ≤ w → IsWord r t 1 (λ i. b)
            → IsWord r (any_label wid (look ts) w subject t es) 1 (λ i. b || is_one_of (now st) w f es)
        any_label_word no_exprs t b h l q = as_word r q (λ i k. sym (or-false b))
        any_label_word (expr e es) t b h l q =
            let x = number f w == number (value (now st) e w) w in
            as_word r (any_label_word es _ (b || x) h.1 (omega arith) (or_word r q (eq_word r p (at_word e h.0 w (omega arith)))))
            (λ i k. or_assoc b x (is_one_of (now st) w f es))

        label_word : (es : Exprs) → AllFit wid (OkAndGood wid (ok d) g through m) es → largest es ≤ w → IsWord r (label_tree wid (look ts) w subject es) 1 (λ i. is_one_of (now st) w f es)
        label_word no_exprs h l = zero_word r 1
        label_word (expr e es) h l = any_label_word es _ _ h.1 (omega arith) (eq_word r p (at_word e h.0 w (omega arith)))

    mutual
      pub after_agree : (s : Stmt) (d : Done) (m : Deps) (ts : Trees) (st : Words) → AreLocal is_local (assigns s) → FitsStmt wid ok d s → Agree r wid sized is_local v g d m ts st
          → Agree r wid sized is_local v g (surely wid s d) (deps wid through s m) (after wid look s ts) (run wid now s st)
      after_agree Null d m ts st own h a = a
      after_agree (Set b t e) d m ts st own h a =
          put_agree r wid sized is_local v g ok d (look ts) (now st) through m (sees d m ts st a) t d m ts st (value_tree wid (look ts) t e) (value (now st) e (value_size wid t e)) (reads wid through m e) own h.1
          (λ o. as_word r (cut_word r (word_of d m ts st a e h.0 o (value_size wid t e) (omega arith)) 0 (target_size wid t) (omega arith)) (λ i l. ap (value (now st) e (value_size wid t e)) (zero-add i))) a
      after_agree (If c x y) d m ts st own h a =
          merge_agree (λ z. assigns x z || assigns y z) (truth_of wid (look ts) c) (is_true (now st) c) (reads wid through m c) (surely wid x d) (surely wid y d)
          (deps wid through x m) (deps wid through y m) m (after wid look x ts) (after wid look y ts) ts (run wid now x st) (run wid now y st)
          (λ o. truth_word r (word_of d m ts st a c h.0 o (size c) (le_refl (size c))))
          (λ z k. let q = or_parts (assigns x z) (assigns y z) k in (kept wid look x ts z q.0, kept wid look y ts z q.1, deps_kept wid through x m z q.0, deps_kept wid through y m z q.1))
          (after_agree x d m ts st (local_first is_local (assigns x) (assigns y) own) h.1 a) (after_agree y d m ts st (local_second is_local (assigns x) (assigns y) own) h.2 a)
      after_agree (Case e is) d m ts st own h a =
          let w = case_size e is in let full = is_full w is in let f = value (now st) e w in
          subst (Agree r wid sized is_local v g _ _ _) (closed_same wid now w f full st is (λ k. full_law (now st) w f is k))
          (case_agree full w (tree wid (look ts) e w) f (reads wid through m e) d m ts st
          (λ o. word_of d m ts st a e h.0 o w (omega arith)) a is d m ts st own h.1 (omega arith) (λ x k. (refl, refl)) a)
      after_agree (Block ss) d m ts st own h a = all_agree ss d m ts st own h a

      case_agree : (full : Bool) (w : ℕ) (subject : Tree) (f : Word) (b : Bits) (d : Done) (m : Deps) (ts : Trees) (st : Words)
          → (AllIn g b → IsWord r subject w f) → Agree r wid sized is_local v g d m ts st
          → (is : Items) (od : Done) (om : Deps) (ot : Trees) (ov : Words) → AreLocal is_local (case_assigns is) → FitItems wid ok d is → largest_label is ≤ w
          → IsLeft full ts m ot om → Agree r wid sized is_local v g od om ot ov
          → Agree r wid sized is_local v g (surely_case wid full od is d) (case_deps wid through full b om is m) (after_case wid look full w subject ot is ts) (closed_run wid now w f full ov is st)
      case_agree full w subject f b d m ts st p a no_items od om ot ov own h l k z = z
      case_agree full w subject f b d m ts st p a (default_item body) od om ot ov own h l k z = after_agree body d m ts st own h a
      case_agree full w subject f b d m ts st p a (item ls body rest) od om ot ov own h l k z =
          let y = after_agree body d m ts st (local_first is_local (assigns body) (case_assigns rest) own) h.1 a in
          merge_agree (λ z. assigns body z || case_assigns rest z) (label_tree wid (look ts) w subject ls) (is_one_of (now st) w f ls) (union b (all_reads wid through m ls)) (surely wid body d) (surely_case wid full (cond full (surely wid body d) od) rest d)
          (deps wid through body m) (case_deps wid through full b (cond full (deps wid through body m) om) rest m) m (after wid look body ts) (after_case wid look full w subject (cond full (after wid look body ts) ot) rest ts) ts
          (run wid now body st) (closed_run wid now w f full (cond full (run wid now body st) ov) rest st)
          (λ o. label_word d m ts st a w subject f (p (left_in g b (all_reads wid through m ls) o)) ls (all_fit wid (ok d) g through m ls h.0 (right_in g b (all_reads wid through m ls) o)) (omega arith))
          (λ x n. let q = or_parts (assigns body x) (case_assigns rest x) n in
          let s = kept wid look body ts x q.0 in let t = deps_kept wid through body m x q.0 in
          let c = left_kept full ts m ot om (after wid look body ts) (deps wid through body m) x k s t in
          (s, case_kept wid look full w subject _ rest ts x q.1 c.0, t, case_deps_kept wid through full b _ rest m x q.1 c.1))
          y (case_agree full w subject f b d m ts st p a rest _ _ _ _ (local_second is_local (assigns body) (case_assigns rest) own) h.2 (omega arith)
          (left_on full ts m ot om (after wid look body ts) (deps wid through body m) k) (either_agree full _ od _ om _ ot _ ov y z))

      all_agree : (ss : Stmts) (d : Done) (m : Deps) (ts : Trees) (st : Words) → AreLocal is_local (all_assign ss) → FitStmts wid ok d ss → Agree r wid sized is_local v g d m ts st
          → Agree r wid sized is_local v g (surely_all wid ss d) (all_deps wid through ss m) (after_all wid look ss ts) (run_all wid now ss st)
      all_agree no_stmts d m ts st own h a = a
      all_agree (stmt s ss) d m ts st own h a = all_agree ss (surely wid s d) (deps wid through s m) (after wid look s ts) (run wid now s st) (local_second is_local (assigns s) (all_assign ss) own) h.1
          (after_agree s d m ts st (local_first is_local (assigns s) (all_assign ss) own) h.0 a)
