-- The law of elaboration, for an expression and for a process of each kind.
use Rattle.std.proofs.Common.{◌≡◌, ℕ, ◌+◌, Bool, true, false, cond, ◌&&◌, refl, sym, ap₂, arith}
use Rattle.cell_graph.specs.Tree.{Var, Const}
use Rattle.std.proofs.lemmas.Bool.{or_right}
use Rattle.cell_graph.specs.Reading.{Reading}
use Rattle.flat_meaning.specs.Values.{Words}
use Rattle.flat_meaning.specs.Flat.{Stmt, Null, Set, If, Case, Block, Items, no_items, default_item, item, Stmts, no_stmts, stmt, case_size, assigns}
use Rattle.flat_meaning.specs.Full.{is_full}
use Rattle.flat_meaning.specs.Trees.{Selects, Trees, cut}
use Rattle.flat_meaning.specs.Assigned.{Done, covers, surely, surely_case, surely_all}
use Rattle.flat_meaning.specs.Law.{Readable, MayBe, Shows, every, present, MayRead, ExpressionLaw, ClockedLaw, CombLaw}
use Rattle.flat_meaning.specs.Deps.{Bits, AllIn, Deps, span, through_wires, none}
use Rattle.flat_meaning.proofs.Words.{never_same, IsWord, as_word, cut_word}
use Rattle.flat_meaning.proofs.Expressions.{tree_word}
use Rattle.flat_meaning.proofs.Targets.{own_word, OkAndGood, both_fit, Agree}
use Rattle.flat_meaning.proofs.Processes.{after_agree}

module _ (r : Reading) (v : Words) (wid : ℕ → ℕ) (ok : Readable) (good : Bits) (sel : Selects) (shows : Shows r v ok good sel) where
  word : (s at w : ℕ) → ok s at w ≡ true → AllIn good (span s at w) → IsWord r (sel s at w) w (λ i. v s (at + i))
  word s at w h k = let p = shows s at w h k in record { wide = p.0; bits = p.1 }

pub expression_law : ExpressionLaw
expression_law r v wid ok good sel shows e h k W l =
    let p = tree_word r v wid sel (OkAndGood wid (MayBe ok) good (λ d. span) (λ x i j. false)) (λ s at w q. word r v wid ok good sel shows s at w q.0 q.1) e
    (both_fit wid (MayBe ok) good (λ d. span) (λ x i j. false) e h k) W l in
    (p.wide, p.bits)

-- where all bits are done, they stay so
module _ (wid : ℕ → ℕ) where
  left_stay : (full : Bool) {d o : Done} → ((x i : ℕ) → d x i ≡ true) → ((x i : ℕ) → o x i ≡ true) → (x i : ℕ) → cond full d o x i ≡ true
  left_stay true h k = h
  left_stay false h k = k

  mutual
    stay : (s : Stmt) (d : Done) → ((x i : ℕ) → d x i ≡ true) → (x i : ℕ) → surely wid s d x i ≡ true
    stay Null d h x i = h x i
    stay (Set b t e) d h x i = or_right (covers wid t x i) (d x i) (h x i)
    stay (If c a b) d h x i = ap₂ (λ p q. p && q) (stay a d h x i) (stay b d h x i)
    stay (Case e is) d h x i = case_stay (is_full (case_size e is) is) d h is d h x i
    stay (Block ss) d h x i = all_stay ss d h x i

    case_stay : (full : Bool) (o : Done) → ((x i : ℕ) → o x i ≡ true) → (is : Items) (d : Done) → ((x i : ℕ) → d x i ≡ true) → (x i : ℕ) → surely_case wid full o is d x i ≡ true
    case_stay full o k no_items d h x i = k x i
    case_stay full o k (default_item body) d h x i = stay body d h x i
    case_stay full o k (item ls body rest) d h x i = ap₂ (λ p q. p && q) (stay body d h x i) (case_stay full (cond full (surely wid body d) o) (left_stay full (stay body d h) k) rest d h x i)

    all_stay : (ss : Stmts) (d : Done) → ((x i : ℕ) → d x i ≡ true) → (x i : ℕ) → surely_all wid ss d x i ≡ true
    all_stay no_stmts d h x i = h x i
    all_stay (stmt s ss) d h x i = all_stay ss (surely wid s d) (stay s d h) x i

pub clocked_law : ClockedLaw
clocked_law r v wid ok sel sized shows body fits own x l =
    let is_local = assigns body in
    let start : Agree r wid sized is_local v every (λ x i. true) (λ x. none) (λ s. Var s (wid s)) v = record { wide = λ x l o. refl; same = λ x l o i h k. own x i l h; others = λ x l i. refl } in
    let a = after_agree r wid sized is_local v every (λ d. MayBe ok) (λ ts. sel) (λ now. v) (λ m. span) (λ d m ts st a. word r v wid ok every sel shows) body (λ x i. true) (λ x. none) (λ s. Var s (wid s)) v (λ x h. h) fits start in
    (a.wide x l (λ s i h. refl), λ i h. a.same x l (λ s i h. refl) i h (stay wid body (λ x i. true) (λ x i. refl) x i))

pub comb_law : CombLaw
comb_law r v wid ok good sel sized shows body fits x l o =
    let is_local = assigns body in
    let start : Agree r wid sized is_local v good (λ x i. false) (λ x. none) (λ s. Const (wid s) 0) v = record { wide = λ x l o. refl; same = λ x l o i h k. never_same (sym k); others = λ x l i. refl } in
    let a = after_agree r wid sized is_local v good (MayRead wid ok is_local) (present wid sel is_local) (λ now. now) (through_wires is_local) sees body (λ x i. false) (λ x. none) (λ s. Const (wid s) 0) v (λ x h. h) fits start in
    (a.wide x l o, λ i h k. a.same x l o i h k)
  where
    sees : (d : Done) (m : Deps) (ts : Trees) (st : Words) → Agree r wid sized (assigns body) v good d m ts st → (s at w : ℕ) → MayRead wid ok (assigns body) d s at w → AllIn good (through_wires (assigns body) m s at w)
        → IsWord r (present wid sel (assigns body) ts s at w) w (λ i. st s (at + i))
    sees d m ts st a s at w h k = go ((assigns body) s) refl k
      where
        go : (u : Bool) → (assigns body) s ≡ u → AllIn good (cond u (m s) (span s at w)) → IsWord r (cond u (cut (wid s) at w (ts s)) (sel s at w)) w (λ i. st s (at + i))
        go true e k = let n = h.1 e in
            as_word r (cut_word r (own_word r (ts s) (wid s) (a.wide s e k)) at w n.0) (λ i j. a.same s e k (at + i) (omega arith) (n.1 i j))
        go false e k = as_word r (word r v wid ok good sel shows s at w (h.0 e) k) (λ i j. sym (a.others s e (at + i)))
