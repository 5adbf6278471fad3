-- What is walked of a list, and what the rest adds.
use Rattle.std.proofs.Common.{◌≡◌, ℕ, suc, ◌+◌, ◌<◌, get_or, length, drop, drop-cons, arith, Bool, true, false, cond, List, [], ◌∷◌, map, Option, Some, None, Box, Bor, Global, refl, sym, ap, ap₂, ◌∙◌}
use Rattle.std.specs.Option.{option_or, option_map}
use Rattle.verilog_ast.specs.declared.Delay.{Delay}
use Rattle.verilog_ast.specs.declared.Expr.{Expr}
use Rattle.verilog_ast.specs.declared.Stmt.{Stmt}
use Rattle.verilog_ast.specs.declared.Stmt.TheVariants as s
use Rattle.verilog_ast.specs.declared.CaseItem.{CaseItem}
use Rattle.verilog_reading.specs.StmtTree.{StmtTrees, ArmTrees, stmt_tree_of, stmt_trees_of, arms_of}
use Rattle.flat_unfolding.specs.Outcome.{Text}
use Rattle.flat_unfolding.specs.Delays.{Delays, differ, on_both, with_delay, assigned_with, walked, walked_all, walked_arms}
use Rattle.process_delays.specs.Walks.{arm_tree_of, other_of, walked_other}
use Rattle.process_delays.proofs.Trees.{tree-switch, tree-switch_else, arm-body}
use Rattle.process_delays.proofs.Ways.{on_both-none, on_both-assoc}

pub left-is : {A : Type 0} (xs : List A) (i : ℕ) (x : A) → i < length xs → x ≡ get_or xs i x → drop i xs ≡ x ∷ drop (i + 1) xs
left-is xs i x l e = drop-cons xs i x l ∙ ap₂ (λ y ys. y ∷ ys) (sym e) (ap (λ j. drop j xs) (let d : suc i ≡ i + 1 = omega arith in d))

pub now_left : (xs : List (Bor Text)) (i : ℕ) (d : Bor Text) → i < length xs → map (λ (n : Bor Text). n.now) (drop i xs) ≡ (get_or xs i d).now ∷ map (λ (n : Bor Text). n.now) (drop (i + 1) xs)
now_left xs i d l = ap (map (λ (n : Bor Text). n.now)) (drop-cons xs i d l ∙ ap (λ j. get_or xs i d ∷ drop j xs) (let s : suc i ≡ i + 1 = omega arith in s))

or-none : {A : Type 0} (o : Option A) → option_or o None ≡ o
or-none None = refl
or-none (Some x) = refl

or-assoc : {A : Type 0} (o p q : Option A) → option_or (option_or o p) q ≡ option_or o (option_or p q)
or-assoc None p q = refl
or-assoc (Some x) p q = refl

pub map-or : {A B : Type 0} (f : A → B) (o p : Option A) → option_map f (option_or o p) ≡ option_or (option_map f o) (option_map f p)
map-or f None p = refl
map-or f (Some x) p = refl

-- ---- names

pub record NamesSoFar (d : Option Delay) (all rest : List Text) (before now : Text → Delays) (c : Option Text) : Type 0 where
  pub after : (assigned_with d now rest).after ≡ (assigned_with d before all).after
  pub clash : option_or c (assigned_with d now rest).clash ≡ (assigned_with d before all).clash

pub names-step : (d : Option Delay) (all left rest : List Text) (x : Text) (before now next : Text → Delays) (c e : Option Text) → NamesSoFar d all left before now c → left ≡ x ∷ rest
    → next ≡ with_delay x d now → e ≡ cond (differ d (now x)) (Some x) None → NamesSoFar d all rest before next (option_or c e)
names-step d all left rest x before now next c e h l n k = record {
  after = ap (λ f. (assigned_with d f rest).after) n ∙ ap (λ xs. (assigned_with d now xs).after) (sym l) ∙ h.after;
  clash = or-assoc c e (assigned_with d next rest).clash ∙ ap₂ (λ o f. option_or c (option_or o (assigned_with d f rest).clash)) k n
      ∙ ap (option_or c) (chosen (differ d (now x)) (assigned_with d (with_delay x d now) rest).clash) ∙ ap (λ xs. option_or c (assigned_with d now xs).clash) (sym l) ∙ h.clash;
}
  where
    chosen : (b : Bool) (o : Option Text) → option_or (cond b (Some x) None) o ≡ cond b (Some x) o
    chosen true o = refl
    chosen false o = refl

pub names-end : (d : Option Delay) (all : List Text) (before now : Text → Delays) (c : Option Text) → NamesSoFar d all [] before now c
    → (now ≡ (assigned_with d before all).after) × (c ≡ (assigned_with d before all).clash)
names-end d all before now c h = (h.after, sym (or-none c) ∙ h.clash)

-- ---- blocks

abbrev rows : List Stmt → StmtTrees
rows xs = stmt_trees_of (map stmt_tree_of xs)

pub record RowsSoFar (all rest : List Stmt) (before now : Text → Delays) (c : Option Text) : Type 0 where
  pub after : (walked_all now (rows rest)).after ≡ (walked_all before (rows all)).after
  pub clash : option_or c (walked_all now (rows rest)).clash ≡ (walked_all before (rows all)).clash

pub rows-step : (all left rest : List Stmt) (x : Stmt) (before now next : Text → Delays) (c d : Option Text) → RowsSoFar all left before now c → left ≡ x ∷ rest
    → (next ≡ (walked now (stmt_tree_of x)).after) × (d ≡ (walked now (stmt_tree_of x)).clash) → RowsSoFar all rest before next (option_or c d)
rows-step all left rest x before now next c d h l w = record {
  after = ap (λ f. (walked_all f (rows rest)).after) w.0 ∙ ap (λ xs. (walked_all now (rows xs)).after) (sym l) ∙ h.after;
  clash = or-assoc c d (walked_all next (rows rest)).clash ∙ ap₂ (λ o f. option_or c (option_or o (walked_all f (rows rest)).clash)) w.1 w.0
      ∙ ap (λ xs. option_or c (walked_all now (rows xs)).clash) (sym l) ∙ h.clash;
}

pub rows-end : (all : List Stmt) (before now : Text → Delays) (c : Option Text) → RowsSoFar all [] before now c → (now ≡ (walked_all before (rows all)).after) × (c ≡ (walked_all before (rows all)).clash)
rows-end all before now c h = (h.after, sym (or-none c) ∙ h.clash)

-- ---- items of a `case`

abbrev arms : List CaseItem → ArmTrees
arms xs = arms_of (map arm_tree_of xs)

pub record ArmsSoFar (f : Text → Delays) (all rest : List CaseItem) (before now : Text → Delays) (c : Option Text) : Type 0 where
  pub after : on_both now (walked_arms f (arms rest)).after ≡ on_both before (walked_arms f (arms all)).after
  pub clash : option_or c (walked_arms f (arms rest)).clash ≡ (walked_arms f (arms all)).clash

pub arms-step : (f : Text → Delays) (all left rest : List CaseItem) (x : CaseItem) (before now own next : Text → Delays) (c d : Option Text) → ArmsSoFar f all left before now c → left ≡ x ∷ rest
    → (own ≡ (walked f (stmt_tree_of x.body)).after) × (d ≡ (walked f (stmt_tree_of x.body)).clash) → next ≡ on_both now own → ArmsSoFar f all rest before next (option_or c d)
arms-step f all left rest x before now own next c d h l w n =
    let body = sym (arm-body x) in
    let a = walked_arms f (arms rest) in record {
      after = ap (λ g. on_both g a.after) n ∙ on_both-assoc now own a.after ∙ ap (λ g. on_both now (on_both g a.after)) (w.0 ∙ ap (λ s. (walked f s).after) body)
          ∙ ap (λ xs. on_both now (walked_arms f (arms xs)).after) (sym l) ∙ h.after;
      clash = or-assoc c d a.clash ∙ ap (λ o. option_or c (option_or o a.clash)) (w.1 ∙ ap (λ s. (walked f s).clash) body)
          ∙ ap (λ xs. option_or c (walked_arms f (arms xs)).clash) (sym l) ∙ h.clash;
    }

pub arms-end : (f : Text → Delays) (all : List CaseItem) (before now : Text → Delays) (c : Option Text) → ArmsSoFar f all [] before now c
    → (now ≡ on_both before (walked_arms f (arms all)).after) × (c ≡ (walked_arms f (arms all)).clash)
arms-end f all before now c h = (sym (on_both-none now) ∙ h.after, sym (or-none c) ∙ h.clash)

pub case-walked : (f : Text → Delays) (m : Bool) (v : Expr) (is : List CaseItem) (other : Option (Box Stmt Global)) (chosen behind after : Text → Delays) (o p : Option Text)
    → (chosen ≡ (walked_arms f (arms is)).after) × (o ≡ (walked_arms f (arms is)).clash) → (behind ≡ (walked_other f (other_of other)).after) × (p ≡ (walked_other f (other_of other)).clash)
    → after ≡ on_both chosen behind → (after ≡ (walked f (stmt_tree_of (s.Case m v is other))).after) × (option_or o p ≡ (walked f (stmt_tree_of (s.Case m v is other))).clash)
case-walked f m v is None chosen behind after o p a b e =
    let tree = sym (tree-switch m v is) in
    (e ∙ ap₂ on_both a.0 b.0 ∙ ap (λ s. (walked f s).after) tree, ap₂ option_or a.1 b.1 ∙ or-none (walked_arms f (arms is)).clash ∙ ap (λ s. (walked f s).clash) tree)
case-walked f m v is (Some z) chosen behind after o p a b e =
    let tree = sym (tree-switch_else m v is z) in
    (e ∙ ap₂ on_both a.0 b.0 ∙ ap (λ s. (walked f s).after) tree, ap₂ option_or a.1 b.1 ∙ ap (λ s. (walked f s).clash) tree)
