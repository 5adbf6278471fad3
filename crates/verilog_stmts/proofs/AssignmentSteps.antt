-- The steps between a target and its value: one for each way out of a function of the parser.
use Rattle.std.proofs.Common.{◌≡◌, ℕ, Bool, true, false, List, length, Option, Some, None, sym, ap, ◌∙◌}
use Rattle.verilog_ast.specs.declared.Delay.{Delay}
use Rattle.verilog_ast.specs.declared.Delay.TheVariants as delays
use Rattle.verilog_exprs.specs.declared.halt.Halt.{Halt}
use Rattle.verilog_exprs.specs.declared.halt.Halt.TheVariants.{Refused}
use Rattle.verilog_exprs.specs.Halts.{HaltsAs}
use Rattle.verilog_exprs.specs.Next.{Takes, Lacks}
use Rattle.verilog_exprs.proofs.DvalSteps.{takes_number, takes_name, no_value}
use Rattle.verilog_exprs.proofs.Steps.{halts_then, halts_by, halts_for_memory, then_done, next_takes, next_lacks, expect_halts}
use Rattle.verilog_lex.specs.declared.token.Token.{Token}
use Rattle.verilog_lex.specs.declared.marks.MarkKind.TheVariants.{ParenOpen, ParenClose, Hash, Equals, LessEqual}
use Rattle.verilog_reading.specs.ExprTree.{TargetTree}
use Rattle.verilog_reading.specs.Lexemes.{Spot, mark_in, ident_in, Numeral, numeral_in, by_number, by_name, dval_in}
use Rattle.verilog_reading.specs.Outcome.{Outcome, done, then_read, expect, refuse}
use Rattle.verilog_reading.specs.StmtReader.{Lower, in_value, delay, later_end, in_later, later, behind_arrow, at_assignment}
use Rattle.verilog_reading.specs.StmtReading.{delay_by}
use Rattle.verilog_reading.specs.StmtTree.{StmtTree}

-- the mark
abbrev pub GoesToValue : Bool → Option Delay → List Token → List Token → Type 0
GoesToValue b d mid inner = (l : Lower) (t : TargetTree) → at_assignment l t mid ≡ in_value l t b d inner

abbrev at_arrow : Lower → TargetTree → List Token → Outcome StmtTree
at_arrow l t = expect (mark_in LessEqual) (behind_arrow l t)

pub blocking_goes : (ts : List Token) (s : Spot) (rest : List Token) → Takes (mark_in Equals) s ts rest → GoesToValue true None ts rest
blocking_goes ts s rest w l t = next_takes (mark_in Equals) (λ _. in_value l t true None) (at_arrow l t) s ts rest w

arrow_goes : (ts : List Token) (s : Spot) (inner : List Token) → Lacks (mark_in Equals) ts → Takes (mark_in LessEqual) s ts inner → (l : Lower) (t : TargetTree)
    → at_assignment l t ts ≡ then_read (later inner) (in_value l t false)
arrow_goes ts s inner v w l t = next_lacks (mark_in Equals) (λ _. in_value l t true None) (at_arrow l t) ts v ∙ next_takes (mark_in LessEqual) (behind_arrow l t) refuse s ts inner w

pub nonblocking_goes : (ts : List Token) (s : Spot) (inner : List Token) (d : Option Delay) (rest : List Token) → Lacks (mark_in Equals) ts → Takes (mark_in LessEqual) s ts inner → later inner ≡ done d rest
    → GoesToValue false d ts rest
nonblocking_goes ts s inner d rest v w x l t = arrow_goes ts s inner v w l t ∙ then_done (later inner) (in_value l t false) d rest x

pub assignment_refused : (ts : List Token) (h : Halt) → Lacks (mark_in Equals) ts → Lacks (mark_in LessEqual) ts → h ≡ Refused false (length ts) → (l : Lower) (t : TargetTree) → HaltsAs (at_assignment l t ts) h
assignment_refused ts h v w q l t = halts_by (at_assignment l t ts) (at_arrow l t ts) h (next_lacks (mark_in Equals) (λ _. in_value l t true None) (at_arrow l t) ts v)
    (expect_halts (mark_in LessEqual) (behind_arrow l t) ts h w q)

pub arrow_halts : (ts : List Token) (s : Spot) (inner : List Token) (h : Halt) → Lacks (mark_in Equals) ts → Takes (mark_in LessEqual) s ts inner → HaltsAs (later inner) h → (l : Lower) (t : TargetTree) → HaltsAs (at_assignment l t ts) h
arrow_halts ts s inner h v w x l t = halts_by (at_assignment l t ts) (then_read (later inner) (in_value l t false)) h (arrow_goes ts s inner v w l t) (halts_then (later inner) (in_value l t false) h x)

pub ruleset assignment_steps = (blocking_goes, nonblocking_goes, assignment_refused, arrow_halts)

-- the delay behind `<=`
abbrev bare : List Token → Outcome (Option Delay)
bare ts = then_read (delay ts) (λ d. done (Some d))

abbrev in_parens : Spot → List Token → Outcome (Option Delay)
in_parens _ ts = then_read (delay ts) later_end

pub later_none : (ts : List Token) → Lacks (mark_in Hash) ts → later ts ≡ done None ts
later_none ts w = next_lacks (mark_in Hash) in_later (done None) ts w

later_bare : (ts : List Token) (s : Spot) (inner : List Token) → Takes (mark_in Hash) s ts inner → Lacks (mark_in ParenOpen) inner → later ts ≡ bare inner
later_bare ts s inner w v = next_takes (mark_in Hash) in_later (done None) s ts inner w ∙ next_lacks (mark_in ParenOpen) in_parens bare inner v

pub bare_halts : (ts : List Token) (s : Spot) (inner : List Token) (h : Halt) → Takes (mark_in Hash) s ts inner → Lacks (mark_in ParenOpen) inner → HaltsAs (delay inner) h → HaltsAs (later ts) h
bare_halts ts s inner h w v x = halts_by (later ts) (bare inner) h (later_bare ts s inner w v) (halts_then (delay inner) (λ d. done (Some d)) h x)

pub bare_done : (ts : List Token) (s : Spot) (inner : List Token) (d : Delay) (rest : List Token) → Takes (mark_in Hash) s ts inner → Lacks (mark_in ParenOpen) inner → delay inner ≡ done d rest → later ts ≡ done (Some d) rest
bare_done ts s inner d rest w v x = later_bare ts s inner w v ∙ then_done (delay inner) (λ d. done (Some d)) d rest x

later_opens : (ts : List Token) (s : Spot) (inner : List Token) (p : Spot) (held : List Token) → Takes (mark_in Hash) s ts inner → Takes (mark_in ParenOpen) p inner held → later ts ≡ in_parens p held
later_opens ts s inner p held w v = next_takes (mark_in Hash) in_later (done None) s ts inner w ∙ next_takes (mark_in ParenOpen) in_parens bare p inner held v

pub parens_halt : (ts : List Token) (s : Spot) (inner : List Token) (p : Spot) (held : List Token) (h : Halt) → Takes (mark_in Hash) s ts inner → Takes (mark_in ParenOpen) p inner held → HaltsAs (delay held) h → HaltsAs (later ts) h
parens_halt ts s inner p held h w v x = halts_by (later ts) (in_parens p held) h (later_opens ts s inner p held w v) (halts_then (delay held) later_end h x)

parens_end : (ts : List Token) (s : Spot) (inner : List Token) (p : Spot) (held : List Token) (d : Delay) (mid : List Token) → Takes (mark_in Hash) s ts inner → Takes (mark_in ParenOpen) p inner held → delay held ≡ done d mid
    → later ts ≡ later_end d mid
parens_end ts s inner p held d mid w v x = later_opens ts s inner p held w v ∙ then_done (delay held) later_end d mid x

pub parens_open : (ts : List Token) (s : Spot) (inner : List Token) (p : Spot) (held : List Token) (d : Delay) (mid : List Token) (h : Halt) → Takes (mark_in Hash) s ts inner → Takes (mark_in ParenOpen) p inner held
    → delay held ≡ done d mid → Lacks (mark_in ParenClose) mid → h ≡ Refused false (length mid) → HaltsAs (later ts) h
parens_open ts s inner p held d mid h w v x y q = halts_by (later ts) (later_end d mid) h (parens_end ts s inner p held d mid w v x) (expect_halts (mark_in ParenClose) (λ _. done (Some d)) mid h y q)

pub parens_done : (ts : List Token) (s : Spot) (inner : List Token) (p : Spot) (held : List Token) (d : Delay) (mid : List Token) (t : Spot) (rest : List Token) → Takes (mark_in Hash) s ts inner → Takes (mark_in ParenOpen) p inner held
    → delay held ≡ done d mid → Takes (mark_in ParenClose) t mid rest → later ts ≡ done (Some d) rest
parens_done ts s inner p held d mid t rest w v x y = parens_end ts s inner p held d mid w v x ∙ next_takes (mark_in ParenClose) (λ _. done (Some d)) refuse t mid rest y

pub ruleset later_steps = (later_none, bare_halts, bare_done, parens_halt, parens_open, parens_done)

-- its number or name
pub delay_number : (ts rest : List Token) (n : Numeral) (v : ℕ) → Takes numeral_in n ts rest → n.value ≡ v → delay ts ≡ done (delays.Number v) rest
delay_number ts rest n v w q = next_takes dval_in (λ d. done (delay_by d)) refuse (by_number n) ts rest (takes_number ts rest n w) ∙ ap (λ z. done (delays.Number z) rest) q

pub delay_name : (ts rest : List Token) (m n : List ℕ) (s : Spot) → Takes ident_in (record { name = n; spot = s }) ts rest → m ≡ n → delay ts ≡ done (delays.Name m) rest
delay_name ts rest m n s w q = next_takes dval_in (λ d. done (delay_by d)) refuse (by_name (record { name = n; spot = s })) ts rest (takes_name ts rest (record { name = n; spot = s }) w)
    ∙ ap (λ z. done (delays.Name z) rest) (sym q)

pub delay_refused : (ts : List Token) (h : Halt) → Lacks numeral_in ts → Lacks ident_in ts → h ≡ Refused false (length ts) → HaltsAs (delay ts) h
delay_refused ts h v w q = expect_halts dval_in (λ d. done (delay_by d)) ts h (no_value ts v w) q

pub ruleset delay_steps = (delay_number, delay_name, delay_refused, halts_for_memory)
