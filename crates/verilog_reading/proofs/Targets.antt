-- The laws of the reader of targets.
use Rattle.std.proofs.Common.{◌≡◌, ℕ, zero, suc, ◌≤◌, max, false, List, [], ◌∷◌, ◌++◌, Option, Some, None, refl, sym, ap, subst, ◌∙◌, append_assoc, append-nil, arith, rules}
use Rattle.verilog_lex.specs.declared.token.Token.{Token}
use Rattle.verilog_lex.specs.declared.marks.MarkKind.TheVariants.{BracketOpen, BracketClose, BraceOpen, BraceClose, Comma}
use Rattle.verilog_reading.specs.Lexemes.{Spot, mark, mark_in, Named, ident, ident_in}
use Rattle.verilog_reading.specs.ExprTree.{ExprTree, height, TargetTree, whole, index_of, part_of, join_of, TargetTrees, and_parts, target_trees_of, target_height, target_heights}
use Rattle.verilog_reading.specs.Outcome.{done, then_read, refuse}
use Rattle.verilog_reading.specs.Lists.{more, AreMore, no_more, one_more}
use Rattle.verilog_ast.specs.declared.PartKind.{PartKind}
use Rattle.verilog_reading.specs.Parts.{part_mark}
use Rattle.verilog_reading.specs.Reading.{IsPart, are_bounds, IsTarget, is_whole, is_index_of, is_part_of, is_join_of, AreMoreTargets, no_targets, more_targets}
use Rattle.verilog_reading.specs.Reader.{readers, Select, at_index, between, select, select_height}
use Rattle.verilog_reading.specs.TargetReader.{Below, below, aimed, with_aim, in_aim, in_target, at_targets, behind_target, in_targets, target_at, read_target}
use Rattle.verilog_reading.specs.Laws.{Says, Within, Local, Above, Free}
use Rattle.verilog_reading.proofs.Tests.{nowhere, mark_is, ident_is}
use Rattle.verilog_reading.proofs.Says.{says_done, says_stop, says_then, says_next, says_closed, says_enter}
use Rattle.verilog_reading.proofs.Lists.{says_more}
use Rattle.verilog_reading.proofs.Local.{local_done, local_stop, local_then, local_next, local_closed, local_enter, local_more}
use Rattle.verilog_reading.proofs.Complete.{enter_free, c_more}
use Rattle.verilog_reading.proofs.Above.{above_then, above_next, above_done, above_refuse, above_closed, above_enter, above_more}
use Rattle.verilog_reading.proofs.ExprSays.{SaysAll, says, IsSelect, is_at, is_between, SelectIn, says_select}
use Rattle.verilog_reading.proofs.ExprLocal.{LocalAll, local, local_select}
use Rattle.verilog_reading.proofs.ExprComplete.{c_expr, index_reads, bounds_read}
use Rattle.verilog_reading.proofs.ExprAbove.{AboveAll, above, above_select}

abbrev pub TargetIn : ℕ → List Token → TargetTree → Type 0
TargetIn = Within IsTarget target_height

-- the least target
abbrev pub some_name : Named
some_name = record { name = 97 ∷ []; spot = nowhere }

pub some_target : IsTarget (ident some_name ∷ []) (whole some_name.name)
some_target = is_whole some_name

-- says
abbrev pub SaysBelow : ℕ → Below → Type 0
SaysBelow j b = SaysAll j b.exprs × ((ts : List Token) → Says (TargetIn j) ts (b.target ts))

abbrev pub TargetSaysDown : ℕ → Option Below → Type 0
TargetSaysDown k down = (b : Below) → down ≡ Some b → (j : ℕ) × (k ≡ suc j) × SaysBelow j b

aim_select : (n : Named) (j k : ℕ) → k ≡ suc j → (u : List Token) (s : Select) → SelectIn j u s → TargetIn k (ident n ∷ u) (aimed n.name s)
aim_select n j k e u s h = go h.0 h.1
  where
    go : {u : List Token} {s : Select} → IsSelect u s → select_height s ≤ j → TargetIn k (ident n ∷ u) (aimed n.name s)
    go (is_at p q x) l = (is_index_of n p q x, omega (arith, l, e))
    go (is_between x) l = (is_part_of n x, omega (arith, l, e))

are_more_targets : (j : ℕ) {u : List Token} {bs : List TargetTree} → AreMore (mark Comma) (TargetIn j) u bs → AreMoreTargets u (target_trees_of bs) × (target_heights (target_trees_of bs) ≤ suc j)
are_more_targets j no_more = (no_targets, omega arith)
are_more_targets j (one_more p {u} {v} {a} {bs} x y) = let z = are_more_targets j y in (more_targets p x.0 z.0, omega (arith, x.1, z.1))

says_in_target : (k : ℕ) (down : Option Below) → TargetSaysDown k down → (n : Named) (ts : List Token) → Says (λ v. TargetIn k (ident n ∷ v)) ts (in_target down n ts)
says_in_target k down D n = let P = λ (v : List Token). TargetIn k (ident n ∷ v) in let e : P [] (whole n.name) = (is_whole n, omega arith) in
    says_enter P down (mark_in BracketOpen) (mark BracketOpen) (mark_is BracketOpen) (in_aim n) (done (whole n.name)) [] (whole n.name) e
    (λ b q p _ ts. let d = D b q in says_then (λ v. SelectIn d.0 (mark BracketOpen p ∷ v)) (λ v. P (mark BracketOpen p ∷ v)) ts (select b.exprs ts) (says_select d.0 b.exprs d.2.0 p ts) (with_aim n)
    (λ u s h. says_done (λ v. P (mark BracketOpen p ∷ (u ++ v))) (aimed n.name s)
    (subst (λ x. P (mark BracketOpen p ∷ x) (aimed n.name s)) (sym (append-nil u)) (aim_select n d.0 k d.1 (mark BracketOpen p ∷ u) s h))))
    (says_done P (whole n.name) e)

pub says_target : (k : ℕ) (down : Option Below) → TargetSaysDown k down → (ts : List Token) → Says (TargetIn k) ts (target_at down ts)
says_target k down D =
    let P = TargetIn k in let e : P (ident some_name ∷ []) (whole some_name.name) = (some_target, omega arith) in
    says_next P ident_in ident ident_is (in_target down) _ (says_in_target k down D)
    (says_enter P down (mark_in BraceOpen) (mark BraceOpen) (mark_is BraceOpen) in_targets refuse (ident some_name ∷ []) (whole some_name.name) e
    (λ b q p _ ts. let d = D b q in says_then (TargetIn d.0) (λ v. P (mark BraceOpen p ∷ v)) ts (b.target ts) (d.2.1 ts) (behind_target b)
    (λ u a h xs. says_then (AreMore (mark Comma) (TargetIn d.0)) (λ v. P (mark BraceOpen p ∷ (u ++ v))) xs (more (mark_in Comma) b.target xs)
    (says_more (mark_in Comma) b.target (mark Comma) (mark_is Comma) (TargetIn d.0) d.2.1 xs) (at_targets a)
    (λ w bs m. let z = are_more_targets d.0 m in
    says_closed (λ v. P (mark BraceOpen p ∷ (u ++ (w ++ v)))) BraceClose (join_of (and_parts a (target_trees_of bs)))
    (λ t. (is_join_of p t h.0 z.0, omega (arith, h.1, z.1, d.1))))))
    (says_stop P false (ident some_name ∷ []) (whole some_name.name) e))

pub says_targets : (k : ℕ) (ts : List Token) → Says (TargetIn k) ts (read_target k ts)
unfolding read_target
says_targets zero = says_target zero None (λ b e. search rules)
says_targets (suc k) = says_target (suc k) (Some (below k)) (λ b e. let z : below k ≡ b = search rules in (k, refl, subst (SaysBelow k) z (says k, says_targets k)))

-- local
abbrev pub LocalBelow : Below → Type 0
LocalBelow b = LocalAll b.exprs × Local b.target

pub local_aim : (b : Below) → LocalBelow b → (n : Named) (p : Spot) → Local (in_aim n b p)
local_aim b l n p = local_then (select b.exprs) (with_aim n) (local_select b.exprs l.0) (λ s. local_done (aimed n.name s))

pub local_behind : (b : Below) → LocalBelow b → (a : TargetTree) → Local (behind_target b a)
local_behind b l a = local_then (more (mark_in Comma) b.target) (at_targets a) (local_more (mark_in Comma) b.target l.1) (λ bs. local_closed BraceClose (join_of (and_parts a (target_trees_of bs))))

pub local_braced : (b : Below) → LocalBelow b → (p : Spot) → Local (in_targets b p)
local_braced b l p = local_then b.target (behind_target b) l.1 (local_behind b l)

pub local_name_of : (down : Option Below) → ((b : Below) → down ≡ Some b → LocalBelow b) → (n : Named) → Local (in_target down n)
local_name_of down D n = local_enter down (mark_in BracketOpen) (in_aim n) (done (whole n.name)) (λ b e p. local_aim b (D b e) n p) (local_done (whole n.name))

pub local_target : (down : Option Below) → ((b : Below) → down ≡ Some b → LocalBelow b) → Local (target_at down)
local_target down D = local_next ident_in (in_target down) _ (local_name_of down D)
    (local_enter down (mark_in BraceOpen) in_targets refuse (λ b e. local_braced b (D b e)) (local_stop false))

pub local_targets : (k : ℕ) → Local (read_target k)
unfolding read_target
local_targets zero = local_target None (λ b e. search rules)
local_targets (suc k) = local_target (Some (below k)) (λ b e. let z : below k ≡ b = search rules in subst LocalBelow z (local k, local_targets k))

-- complete
abbrev downs : ℕ → Option Below
downs zero = None
downs (suc k) = Some (below k)

targets_is : (k : ℕ) (ts : List Token) → read_target k ts ≡ target_at (downs k) ts
unfolding read_target
targets_is zero ts = refl
targets_is (suc k) ts = refl

targets_below : (j : ℕ) (ts : List Token) → read_target (suc j) ts ≡ target_at (Some (below j)) ts
unfolding read_target
targets_below j ts = refl

abbrev pub ReadsTarget : List Token → TargetTree → Type 0
ReadsTarget u a = (k : ℕ) → target_height a ≤ k → (rest : List Token) → Free (mark_in BracketOpen) rest → read_target k (u ++ rest) ≡ done a rest

abbrev pub GoodTarget : List Token → TargetTree → Type 0
GoodTarget u a = IsTarget u a × ReadsTarget u a

low_targets : (j : ℕ) {u : List Token} {bs : List TargetTree} → AreMore (mark Comma) GoodTarget u bs → target_heights (target_trees_of bs) ≤ suc j → AreMore (mark Comma) (λ v a. GoodTarget v a × (target_height a ≤ j)) u bs
low_targets j no_more h = no_more
low_targets j (one_more p {u} {v} {a} {bs} x y) h = one_more p (x, omega (arith, h)) (low_targets j y (omega (arith, h)))

whole_reads : (k : ℕ) (n : Named) (rest : List Token) → Free (mark_in BracketOpen) rest → read_target k (ident n ∷ rest) ≡ done (whole n.name) rest
whole_reads k n rest f = targets_is k (ident n ∷ rest) ∙ enter_free (downs k) (mark_in BracketOpen) (in_aim n) (done (whole n.name)) rest f

aim_reads : (k : ℕ) (n : Named) (p : Spot) (s : Select) (ts rest : List Token) → 1 ≤ k → ((j : ℕ) → k ≡ suc j → select (readers j) ts ≡ done s rest)
    → read_target k (ident n ∷ (mark BracketOpen p ∷ ts)) ≡ done (aimed n.name s) rest
aim_reads zero n p s ts rest h g = absurd (omega (arith, h))
aim_reads (suc j) n p s ts rest h g = targets_below j (ident n ∷ (mark BracketOpen p ∷ ts)) ∙ ap (λ o. then_read o (with_aim n)) (g j refl)

braced_read : (k : ℕ) (p q : Spot) (u v : List Token) (a : TargetTree) (bs : List TargetTree) → max (suc (target_height a)) (target_heights (target_trees_of bs)) ≤ k → (rest : List Token) → ReadsTarget u a → AreMore (mark Comma) GoodTarget v bs
    → read_target k (mark BraceOpen p ∷ (u ++ (v ++ mark BraceClose q ∷ rest))) ≡ done (join_of (and_parts a (target_trees_of bs))) rest
braced_read zero p q u v a bs h rest g m = absurd (omega (arith, h))
braced_read (suc j) p q u v a bs h rest g m = targets_below j (mark BraceOpen p ∷ (u ++ (v ++ mark BraceClose q ∷ rest)))
    ∙ ap (λ o. then_read o (behind_target (below j))) (g j (omega (arith, h)) (v ++ mark BraceClose q ∷ rest) (behind m))
    ∙ ap (λ o. then_read o (at_targets a)) (c_more (mark_in Comma) (read_target j) (mark Comma) (λ s. refl) (λ w x. GoodTarget w x × (target_height x ≤ j)) (Free (mark_in BracketOpen)) (λ s ts. refl)
    (λ w x i rest f. i.0.1 j i.1 rest f) (low_targets j m (omega (arith, h))) (mark BraceClose q ∷ rest) refl refl)
  where
    behind : {v : List Token} {bs : List TargetTree} → AreMore (mark Comma) GoodTarget v bs → Free (mark_in BracketOpen) (v ++ mark BraceClose q ∷ rest)
    behind no_more = refl
    behind (one_more s x y) = refl

c_part_of : (n : Named) {kind : PartKind} {u : List Token} {a b : ExprTree} → IsPart kind u a b → (k : ℕ) → suc (max (height a) (height b)) ≤ k → (rest : List Token)
    → read_target k (ident n ∷ (u ++ rest)) ≡ done (part_of n.name kind a b) rest
c_part_of n (are_bounds {kind} p o q {u} {v} {a} {b} x y) k h rest = let divided = mark (part_mark kind) o in
    subst (λ w. read_target k (ident n ∷ (mark BracketOpen p ∷ w)) ≡ done (part_of n.name kind a b) rest)
    (sym (append_assoc u (divided ∷ (v ++ mark BracketClose q ∷ [])) rest ∙ ap (λ w. u ++ divided ∷ w) (append_assoc v (mark BracketClose q ∷ []) rest)))
    (aim_reads k n p (between kind a b) (u ++ divided ∷ (v ++ mark BracketClose q ∷ rest)) rest (omega (arith, h))
    (λ j e. bounds_read j kind u v a b o q rest (omega (arith, h, e)) (omega (arith, h, e)) (c_expr x) (c_expr y)))

mutual
  pub c_target : {u : List Token} {a : TargetTree} → IsTarget u a → ReadsTarget u a
  c_target (is_whole n) k h rest f = whole_reads k n rest f
  c_target (is_index_of n p q {u} {i} x) k h rest f = subst (λ w. read_target k (ident n ∷ (mark BracketOpen p ∷ w)) ≡ done (index_of n.name i) rest) (sym (append_assoc u (mark BracketClose q ∷ []) rest))
      (aim_reads k n p (at_index i) (u ++ mark BracketClose q ∷ rest) rest (omega (arith, h)) (λ j e. index_reads j u i q rest (omega (arith, h, e)) (c_expr x)))
  c_target (is_part_of n x) k h rest f = c_part_of n x k h rest
  c_target (is_join_of p q {u} {v} {a} {bs} x y) k h rest f = let z = c_targets y in
      subst (λ w. read_target k (mark BraceOpen p ∷ w) ≡ done (join_of (and_parts a bs)) rest)
      (sym (append_assoc u (v ++ mark BraceClose q ∷ []) rest ∙ ap (λ w. u ++ w) (append_assoc v (mark BraceClose q ∷ []) rest)))
      (subst (λ (t : TargetTrees). read_target k (mark BraceOpen p ∷ (u ++ (v ++ mark BraceClose q ∷ rest))) ≡ done (join_of (and_parts a t)) rest) z.1
      (braced_read k p q u v a z.0 (subst (λ (t : TargetTrees). max (suc (target_height a)) (target_heights t) ≤ k) (sym z.1) h) rest (c_target x) z.2))

  c_targets : {u : List Token} {bs : TargetTrees} → AreMoreTargets u bs → (l : List TargetTree) × (target_trees_of l ≡ bs) × AreMore (mark Comma) GoodTarget u l
  c_targets no_targets = ([], refl, no_more)
  c_targets (more_targets p {u} {v} {a} {bs} x y) = let z = c_targets y in (a ∷ z.0, ap (and_parts a) z.1, one_more p (x, c_target x) z.2)

-- above
abbrev pub AboveBelow : Below → Below → Type 0
AboveBelow b b2 = AboveAll b.exprs b2.exprs × ((ts : List Token) → Above (b.target ts) (b2.target ts))

above_target : (down : Option Below) (b2 : Below) → ((b : Below) → down ≡ Some b → AboveBelow b b2) → LocalBelow b2 → (ts : List Token) → Above (target_at down ts) (target_at (Some b2) ts)
above_target down b2 D l = above_next ident_in (in_target down) (in_target (Some b2)) _ _
    (λ n. above_enter down b2 (mark_in BracketOpen) (in_aim n) (in_aim n) (done (whole n.name)) (done (whole n.name))
    (λ b e p ts. above_then (select b.exprs ts) (select b2.exprs ts) (above_select b.exprs b2.exprs (D b e).0 l.0 ts) (with_aim n) (with_aim n) (λ s rest _. above_done (aimed n.name s) rest) (λ s. local_done (aimed n.name s)))
    (local_aim b2 l n) (above_done (whole n.name)))
    (above_enter down b2 (mark_in BraceOpen) in_targets in_targets refuse refuse
    (λ b e p ts. above_then (b.target ts) (b2.target ts) ((D b e).1 ts) (behind_target b) (behind_target b2)
    (λ a rest _. above_then (more (mark_in Comma) b.target rest) (more (mark_in Comma) b2.target rest) (above_more (mark_in Comma) b.target b2.target (D b e).1 l.1 rest) (at_targets a) (at_targets a)
    (λ bs ys _. above_closed BraceClose (join_of (and_parts a (target_trees_of bs))) ys) (λ bs. local_closed BraceClose (join_of (and_parts a (target_trees_of bs)))))
    (local_behind b2 l))
    (local_braced b2 l) above_refuse)

pub above_targets : (k : ℕ) (ts : List Token) → Above (read_target k ts) (read_target (suc k) ts)
unfolding read_target
above_targets zero = above_target None (below zero) (λ b e. search rules) (local zero, local_targets zero)
above_targets (suc k) = above_target (Some (below k)) (below (suc k)) (λ b e. let z : below k ≡ b = search rules in subst (λ x. AboveBelow x (below (suc k))) z (above k, above_targets k)) (local (suc k), local_targets (suc k))
