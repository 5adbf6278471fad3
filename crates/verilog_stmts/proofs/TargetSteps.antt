-- The steps of the reader of targets: one for each way out of a function of the parser.
use Rattle.std.proofs.Common.{◌≡◌, ℕ, zero, suc, ◌+◌, ◌≤◌, true, false, List, [], ◌∷◌, ◌++◌, map, length, Option, Some, None, refl, sym, ap, ◌∙◌, arith, rules}
use Rattle.verilog_ast.specs.declared.Target.{Target}
use Rattle.verilog_exprs.specs.declared.halt.Halt.{Halt}
use Rattle.verilog_exprs.specs.declared.halt.Halt.TheVariants.{Refused}
use Rattle.verilog_exprs.specs.Halts.{HaltsAs}
use Rattle.verilog_exprs.specs.Next.{Takes, Lacks}
use Rattle.verilog_exprs.proofs.Steps.{halts_then, halts_by, halts_at, halts_for_memory, then_done, next_takes, next_lacks, enter_some, enter_none, enter_lacks, expect_halts}
use Rattle.verilog_lex.specs.declared.token.Token.{Token}
use Rattle.verilog_lex.specs.declared.token.TokenKind.{TokenKind}
use Rattle.verilog_lex.specs.declared.token.TokenKind.TheVariants.{Ident, Mark}
use Rattle.verilog_lex.specs.declared.marks.MarkKind.TheVariants.{BracketOpen, BraceOpen, BraceClose, Comma}
use Rattle.verilog_reading.specs.Lexemes.{Spot, mark_in, Named, ident_in, mark_of, ident_of}
use Rattle.verilog_reading.specs.ExprTree.{TargetTree, whole, join_of, target_tree_of, target_trees_of}
use Rattle.verilog_reading.specs.Outcome.{Outcome, done, stop, then_read, refuse, enter}
use Rattle.verilog_reading.specs.Lists.{more}
use Rattle.verilog_reading.specs.Reader.{readers, closed, Select, select}
use Rattle.verilog_reading.specs.StmtReader.{target_of, target_in}
use Rattle.verilog_reading.specs.TargetReader.{Below, below, aimed, in_target, at_targets, behind_target, in_targets, target_at, read_target}
use Rattle.verilog_reading.proofs.Targets.{local_targets}
use Rattle.verilog_reading.proofs.Tests.{mark_is, ident_is}
use Rattle.verilog_stmts.specs.Forms.{aimed_at, targets_at}
use Rattle.verilog_stmts.specs.Levels.{below_in}
use Rattle.verilog_stmts.proofs.ListSteps.{Several, several_first_halts, several_first, several_more, several_halts, several_end}

-- what begins a target
pub name_starts : (n : Named) (ts rest : List Token) → Takes ident_in n ts rest → Takes target_in tt ts rest
name_starts n ts rest w = record { token = w.token; is = w.is; finds = ap target_in (ident_is w.token n w.finds) }

pub brace_starts : (s : Spot) (ts rest : List Token) → Takes (mark_in BraceOpen) s ts rest → Takes target_in tt ts rest
brace_starts s ts rest w = record { token = w.token; is = w.is; finds = ap target_in (mark_is BraceOpen w.token s w.finds) }

no_target : (k : TokenKind) (s : Spot) → ident_of k s ≡ None → mark_of BraceOpen k s ≡ None → target_of k ≡ None
no_target (Ident n) s e f = absurd (search (rules, e))
no_target (Mark BraceOpen) s e f = absurd (search (rules, f))
no_target k s e f = refl

pub none_starts : (ts : List Token) → Lacks ident_in ts → Lacks (mark_in BraceOpen) ts → Lacks target_in ts
none_starts [] v w = record { free = tt }
none_starts (t ∷ ts) v w = record { free = no_target t.kind (record { place = t.place; start = t.start; stop = t.«end» }) v.free w.free }

-- the level below
pub below_some : (k j : ℕ) → j + 1 ≡ k → below_in k ≡ Some (below j)
below_some k j i = let z : k ≡ suc j = omega (arith, i) in ap below_in z

pub below_none : (k : ℕ) → k ≤ 0 → below_in k ≡ None
below_none k i = let z : k ≡ 0 = omega (arith, i) in ap below_in z

target_is : (k : ℕ) (ts : List Token) → read_target k ts ≡ target_at (below_in k) ts
unfolding read_target
target_is zero ts = refl
target_is (suc k) ts = refl

abbrev braces_at : Option Below → List Token → Outcome TargetTree
braces_at down = enter down (mark_in BraceOpen) in_targets refuse

pub target_named : (k : ℕ) (ts : List Token) (n : List ℕ) (s : Spot) (rest : List Token) → Takes ident_in (record { name = n; spot = s }) ts rest → read_target k ts ≡ aimed_at (below_in k) n rest
target_named k ts n s rest w = target_is k ts ∙ next_takes ident_in (in_target (below_in k)) (braces_at (below_in k)) (record { name = n; spot = s }) ts rest w

target_braces : (k : ℕ) (ts : List Token) → Lacks ident_in ts → read_target k ts ≡ braces_at (below_in k) ts
target_braces k ts w = target_is k ts ∙ next_lacks ident_in (in_target (below_in k)) (braces_at (below_in k)) ts w

pub target_refused : (k : ℕ) (ts : List Token) (h : Halt) → Lacks ident_in ts → Lacks (mark_in BraceOpen) ts → h ≡ Refused false (length ts) → HaltsAs (read_target k ts) h
target_refused k ts h v w q = halts_at (read_target k ts) false ts h (target_braces k ts v ∙ enter_lacks (below_in k) (mark_in BraceOpen) in_targets refuse ts w) q

pub target_deep : (k : ℕ) (ts : List Token) (s : Spot) (inner : List Token) (h : Halt) → Lacks ident_in ts → Takes (mark_in BraceOpen) s ts inner → k ≤ 0 → h ≡ Refused true (length ts) → HaltsAs (read_target k ts) h
target_deep k ts s inner h v w i q = halts_at (read_target k ts) true ts h (target_braces k ts v ∙ enter_none (below_in k) (mark_in BraceOpen) in_targets refuse s ts inner (below_none k i) w) q

abbrev behind_parts : List TargetTree → List Token → Outcome TargetTree
behind_parts ls = closed BraceClose (join_of (target_trees_of ls))

regroup : (b : Below) (o : Outcome TargetTree) → then_read o (behind_target b) ≡ then_read (then_read o (λ a rest. then_read (more (mark_in Comma) b.target rest) (λ bs. done (a ∷ bs)))) behind_parts
regroup b (stop d rest) = refl
regroup b (done a rest) = go (more (mark_in Comma) b.target rest)
  where
    go : (m : Outcome (List TargetTree)) → then_read m (at_targets a) ≡ then_read (then_read m (λ bs. done (a ∷ bs))) behind_parts
    go (stop d last) = refl
    go (done bs last) = refl

target_enters : (k j : ℕ) (ts : List Token) (s : Spot) (inner : List Token) → Lacks ident_in ts → Takes (mark_in BraceOpen) s ts inner → j + 1 ≡ k → read_target k ts ≡ then_read (targets_at (below j) inner) behind_parts
target_enters k j ts s inner v w i = target_braces k ts v ∙ enter_some (below_in k) (mark_in BraceOpen) in_targets refuse (below j) s ts inner (below_some k j i) w ∙ regroup (below j) (read_target j inner)

pub target_parts_halt : (k j : ℕ) (ts : List Token) (s : Spot) (inner : List Token) (h : Halt) → Lacks ident_in ts → Takes (mark_in BraceOpen) s ts inner → j + 1 ≡ k → HaltsAs (targets_at (below j) inner) h → HaltsAs (read_target k ts) h
target_parts_halt k j ts s inner h v w i x = halts_by (read_target k ts) (then_read (targets_at (below j) inner) behind_parts) h (target_enters k j ts s inner v w i) (halts_then (targets_at (below j) inner) behind_parts h x)

target_parts : (k j : ℕ) (ts : List Token) (s : Spot) (inner : List Token) (ls : List TargetTree) (mid : List Token) → Lacks ident_in ts → Takes (mark_in BraceOpen) s ts inner → j + 1 ≡ k
    → targets_at (below j) inner ≡ done ls mid → read_target k ts ≡ behind_parts ls mid
target_parts k j ts s inner ls mid v w i x = target_enters k j ts s inner v w i ∙ then_done (targets_at (below j) inner) behind_parts ls mid x

pub target_open : (k j : ℕ) (ts : List Token) (s : Spot) (inner : List Token) (ls : List TargetTree) (mid : List Token) (h : Halt) → Lacks ident_in ts → Takes (mark_in BraceOpen) s ts inner → j + 1 ≡ k
    → targets_at (below j) inner ≡ done ls mid → Lacks (mark_in BraceClose) mid → h ≡ Refused false (length mid) → HaltsAs (read_target k ts) h
target_open k j ts s inner ls mid h v w i x y q = halts_by (read_target k ts) (behind_parts ls mid) h (target_parts k j ts s inner ls mid v w i x) (expect_halts (mark_in BraceClose) (λ _. done (join_of (target_trees_of ls))) mid h y q)

pub target_closed : (k j : ℕ) (ts : List Token) (s : Spot) (inner : List Token) (ls : List TargetTree) (mid : List Token) (t : Spot) (rest : List Token) (e : TargetTree) → Lacks ident_in ts → Takes (mark_in BraceOpen) s ts inner
    → j + 1 ≡ k → targets_at (below j) inner ≡ done ls mid → Takes (mark_in BraceClose) t mid rest → e ≡ join_of (target_trees_of ls) → read_target k ts ≡ done e rest
target_closed k j ts s inner ls mid t rest e v w i x y q = target_parts k j ts s inner ls mid v w i x ∙ next_takes (mark_in BraceClose) (λ _. done (join_of (target_trees_of ls))) refuse t mid rest y ∙ ap (λ z. done z rest) (sym q)

pub ruleset target_steps = (target_refused, target_deep, target_parts_halt, target_open, target_closed)

-- lists
abbrev pub TargetsOn : (k : ℕ) → Outcome (List TargetTree) → List Target → List Token → Type 0
TargetsOn k o xs rest = Several target_tree_of (mark_in Comma) (read_target k) o xs rest

pub targets_halt : (k : ℕ) (ts : List Token) (h : Halt) → HaltsAs (read_target k ts) h → HaltsAs (targets_at (below k) ts) h
targets_halt k ts h x = several_first_halts target_tree_of (mark_in Comma) (read_target k) ts h x

pub targets_first : (k : ℕ) (ts : List Token) (x : Target) (xs : List Target) (rest : List Token) → read_target k ts ≡ done (target_tree_of x) rest → xs ≡ x ∷ [] → TargetsOn k (targets_at (below k) ts) xs rest
targets_first k ts x xs rest e l = several_first target_tree_of (mark_in Comma) (read_target k) ts x xs rest e l

pub targets_more : (k : ℕ) (o : Outcome (List TargetTree)) (xs ys : List Target) (s : Spot) (ts after : List Token) (x : Target) (rest : List Token) → TargetsOn k o xs ts → Takes (mark_in Comma) s ts after
    → read_target k after ≡ done (target_tree_of x) rest → ys ≡ xs ++ x ∷ [] → TargetsOn k o ys rest
targets_more k o xs ys s ts after x rest g w e q = several_more target_tree_of (mark_in Comma) (read_target k) (local_targets k) o xs ys s ts after x rest g w e q

pub targets_stop : (k : ℕ) (o : Outcome (List TargetTree)) (xs : List Target) (s : Spot) (ts after : List Token) (h : Halt) → TargetsOn k o xs ts → Takes (mark_in Comma) s ts after → HaltsAs (read_target k after) h → HaltsAs o h
targets_stop k o xs s ts after h g w x = several_halts target_tree_of (mark_in Comma) (read_target k) o xs s ts after h g w x

pub targets_end : (k : ℕ) (o : Outcome (List TargetTree)) (xs : List Target) (ts : List Token) → TargetsOn k o xs ts → Lacks (mark_in Comma) ts → o ≡ done (map target_tree_of xs) ts
targets_end k o xs ts g w = several_end target_tree_of (mark_in Comma) (read_target k) o xs ts g w

pub ruleset targets_steps = (targets_halt, targets_first, targets_more, targets_stop, targets_end, halts_for_memory)

-- names and selects
abbrev at_bracket : List ℕ → Below → Spot → List Token → Outcome TargetTree
at_bracket n b _ ts = then_read (select b.exprs ts) (λ s. done (aimed n s))

pub aimed_plain : (k : ℕ) (n : List ℕ) (ts : List Token) (e : TargetTree) → Lacks (mark_in BracketOpen) ts → e ≡ whole n → aimed_at (below_in k) n ts ≡ done e ts
aimed_plain k n ts e w q = enter_lacks (below_in k) (mark_in BracketOpen) (at_bracket n) (done (whole n)) ts w ∙ ap (λ x. done x ts) (sym q)

pub aimed_deep : (k : ℕ) (n : List ℕ) (ts : List Token) (s : Spot) (inner : List Token) (h : Halt) → Takes (mark_in BracketOpen) s ts inner → k ≤ 0 → h ≡ Refused true (length ts) → HaltsAs (aimed_at (below_in k) n ts) h
aimed_deep k n ts s inner h w i q = halts_at (aimed_at (below_in k) n ts) true ts h (enter_none (below_in k) (mark_in BracketOpen) (at_bracket n) (done (whole n)) s ts inner (below_none k i) w) q

aimed_enters : (k j : ℕ) (n : List ℕ) (ts : List Token) (s : Spot) (inner : List Token) → Takes (mark_in BracketOpen) s ts inner → j + 1 ≡ k → aimed_at (below_in k) n ts ≡ at_bracket n (below j) s inner
aimed_enters k j n ts s inner w i = enter_some (below_in k) (mark_in BracketOpen) (at_bracket n) (done (whole n)) (below j) s ts inner (below_some k j i) w

pub aimed_halts : (k j : ℕ) (n : List ℕ) (ts : List Token) (s : Spot) (inner : List Token) (h : Halt) → Takes (mark_in BracketOpen) s ts inner → j + 1 ≡ k → HaltsAs (select (readers j) inner) h → HaltsAs (aimed_at (below_in k) n ts) h
aimed_halts k j n ts s inner h w i x = halts_by (aimed_at (below_in k) n ts) (at_bracket n (below j) s inner) h (aimed_enters k j n ts s inner w i) (halts_then (select (readers j) inner) (λ s. done (aimed n s)) h x)

pub aimed_done : (k j : ℕ) (n : List ℕ) (ts : List Token) (s : Spot) (inner : List Token) (b : Select) (rest : List Token) (m : List ℕ) (e : TargetTree) → Takes (mark_in BracketOpen) s ts inner → j + 1 ≡ k
    → select (readers j) inner ≡ done b rest → e ≡ aimed m b → m ≡ n → aimed_at (below_in k) n ts ≡ done e rest
aimed_done k j n ts s inner b rest m e w i x q c = aimed_enters k j n ts s inner w i ∙ then_done (select (readers j) inner) (λ s. done (aimed n s)) b rest x ∙ ap (λ y. done y rest) (sym (q ∙ ap (λ z. aimed z b) c))

pub ruleset aimed_steps = (aimed_plain, aimed_deep, aimed_halts, aimed_done, halts_for_memory)
