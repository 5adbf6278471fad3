-- The steps of the reader of delays: one for each way out of a function of the parser.
use Rattle.std.proofs.Common.{◌≡◌, false, List, length, ap, ◌∙◌, if◌then◌else◌}
use Rattle.verilog_ast.specs.declared.DeclKind.{DeclKind}
use Rattle.verilog_ast.specs.declared.DeclKind.TheVariants.{Wire}
use Rattle.verilog_exprs.specs.declared.halt.Halt.{Halt}
use Rattle.verilog_exprs.specs.declared.halt.Halt.TheVariants.{Refused}
use Rattle.verilog_exprs.specs.Halts.{HaltsAs}
use Rattle.verilog_exprs.specs.Next.{Takes, Lacks}
use Rattle.verilog_exprs.proofs.DvalSteps.{number_value, name_value, no_value}
use Rattle.verilog_exprs.proofs.Steps.{halts_by, next_takes, next_lacks, expect_halts}
use Rattle.verilog_lex.specs.declared.token.Token.{Token}
use Rattle.verilog_lex.specs.declared.marks.MarkKind.TheVariants.{ParenOpen, ParenClose, Comma, Hash}
use Rattle.verilog_reading.specs.ItemReader.{delay_end, second_delay, in_delays, in_delay, maybe_delay, delay_of}
use Rattle.verilog_reading.specs.ItemReading.{has_delay}
use Rattle.verilog_reading.specs.Lexemes.{Spot, mark_in, Dval, dval_in}
use Rattle.verilog_reading.specs.Outcome.{Outcome, done, next, expect, refuse}

abbrev Delay : Type 0
Delay = Outcome (Unit {0})

-- `[delay]` of a declaration
pub delay_none : (kind : DeclKind) (ts : List Token) → has_delay kind ≡ false → delay_of kind ts ≡ done tt ts
delay_none kind ts e = ap (λ z. (if z then maybe_delay else done tt) ts) e

pub delay_wire : (kind : DeclKind) (ts : List Token) → kind ≡ Wire → delay_of kind ts ≡ maybe_delay ts
delay_wire kind ts e = ap (λ z. delay_of z ts) e

pub ruleset kind_steps = (delay_none, delay_wire)

-- `dval`
pub ruleset value_steps = (number_value, name_value, no_value)

-- `[delay]`
abbrev one_value : List Token → Delay
one_value = expect dval_in (λ _. done tt)

pub delay_absent : (ts : List Token) → Lacks (mark_in Hash) ts → maybe_delay ts ≡ done tt ts
delay_absent ts w = next_lacks (mark_in Hash) in_delay (done tt) ts w

delay_enters : (ts : List Token) (s : Spot) (inner : List Token) → Takes (mark_in Hash) s ts inner → maybe_delay ts ≡ in_delay s inner
delay_enters ts s inner w = next_takes (mark_in Hash) in_delay (done tt) s ts inner w

pub delay_listed : (ts : List Token) (s : Spot) (inner : List Token) (t : Spot) (values : List Token) → Takes (mark_in Hash) s ts inner → Takes (mark_in ParenOpen) t inner values → maybe_delay ts ≡ in_delays t values
delay_listed ts s inner t values w v = delay_enters ts s inner w ∙ next_takes (mark_in ParenOpen) in_delays one_value t inner values v

delay_bare : (ts : List Token) (s : Spot) (inner : List Token) → Takes (mark_in Hash) s ts inner → Lacks (mark_in ParenOpen) inner → maybe_delay ts ≡ one_value inner
delay_bare ts s inner w v = delay_enters ts s inner w ∙ next_lacks (mark_in ParenOpen) in_delays one_value inner v

pub delay_is_value : (ts : List Token) (s : Spot) (inner : List Token) (d : Dval) (rest : List Token) → Takes (mark_in Hash) s ts inner → Lacks (mark_in ParenOpen) inner → Takes dval_in d inner rest → maybe_delay ts ≡ done tt rest
delay_is_value ts s inner d rest w v x = delay_bare ts s inner w v ∙ next_takes dval_in (λ _. done tt) refuse d inner rest x

pub delay_value_halts : (ts : List Token) (s : Spot) (inner : List Token) (h : Halt) → Takes (mark_in Hash) s ts inner → Lacks (mark_in ParenOpen) inner → Lacks dval_in inner → h ≡ Refused false (length inner) → HaltsAs (maybe_delay ts) h
delay_value_halts ts s inner h w v x q = halts_by (maybe_delay ts) (one_value inner) h (delay_bare ts s inner w v) (expect_halts dval_in (λ _. done tt) inner h x q)

-- `dval [ , dval ] )`
abbrev behind_first : Dval → List Token → Delay
behind_first _ = next (mark_in Comma) second_delay delay_end

pub first_halts : (ts : List Token) (h : Halt) → Lacks dval_in ts → h ≡ Refused false (length ts) → (s : Spot) → HaltsAs (in_delays s ts) h
first_halts ts h w q s = expect_halts dval_in behind_first ts h w q

first_is : (ts : List Token) (d : Dval) (first : List Token) → Takes dval_in d ts first → (s : Spot) → in_delays s ts ≡ behind_first d first
first_is ts d first w s = next_takes dval_in behind_first refuse d ts first w

only_is : (ts : List Token) (d : Dval) (first : List Token) → Takes dval_in d ts first → Lacks (mark_in Comma) first → (s : Spot) → in_delays s ts ≡ delay_end first
only_is ts d first w v s = first_is ts d first w s ∙ next_lacks (mark_in Comma) second_delay delay_end first v

pub only_halts : (ts : List Token) (d : Dval) (first : List Token) (h : Halt) → Takes dval_in d ts first → Lacks (mark_in Comma) first → Lacks (mark_in ParenClose) first → h ≡ Refused false (length first) → (s : Spot) → HaltsAs (in_delays s ts) h
only_halts ts d first h w v x q s = halts_by (in_delays s ts) (delay_end first) h (only_is ts d first w v s) (expect_halts (mark_in ParenClose) (λ _. done tt) first h x q)

pub only_ends : (ts : List Token) (d : Dval) (first : List Token) (t : Spot) (rest : List Token) → Takes dval_in d ts first → Lacks (mark_in Comma) first → Takes (mark_in ParenClose) t first rest → (s : Spot) → in_delays s ts ≡ done tt rest
only_ends ts d first t rest w v x s = only_is ts d first w v s ∙ next_takes (mark_in ParenClose) (λ _. done tt) refuse t first rest x

second_is : (ts : List Token) (d : Dval) (first : List Token) (c : Spot) (inner : List Token) → Takes dval_in d ts first → Takes (mark_in Comma) c first inner → (s : Spot) → in_delays s ts ≡ second_delay c inner
second_is ts d first c inner w v s = first_is ts d first w s ∙ next_takes (mark_in Comma) second_delay delay_end c first inner v

pub second_halts : (ts : List Token) (d : Dval) (first : List Token) (c : Spot) (inner : List Token) (h : Halt) → Takes dval_in d ts first → Takes (mark_in Comma) c first inner → Lacks dval_in inner → h ≡ Refused false (length inner)
    → (s : Spot) → HaltsAs (in_delays s ts) h
second_halts ts d first c inner h w v x q s = halts_by (in_delays s ts) (second_delay c inner) h (second_is ts d first c inner w v s) (expect_halts dval_in (λ _. delay_end) inner h x q)

both_are : (ts : List Token) (d : Dval) (first : List Token) (c : Spot) (inner : List Token) (e : Dval) (second : List Token) → Takes dval_in d ts first → Takes (mark_in Comma) c first inner → Takes dval_in e inner second
    → (s : Spot) → in_delays s ts ≡ delay_end second
both_are ts d first c inner e second w v x s = second_is ts d first c inner w v s ∙ next_takes dval_in (λ _. delay_end) refuse e inner second x

pub both_halt : (ts : List Token) (d : Dval) (first : List Token) (c : Spot) (inner : List Token) (e : Dval) (second : List Token) (h : Halt) → Takes dval_in d ts first → Takes (mark_in Comma) c first inner → Takes dval_in e inner second
    → Lacks (mark_in ParenClose) second → h ≡ Refused false (length second) → (s : Spot) → HaltsAs (in_delays s ts) h
both_halt ts d first c inner e second h w v x y q s = halts_by (in_delays s ts) (delay_end second) h (both_are ts d first c inner e second w v x s) (expect_halts (mark_in ParenClose) (λ _. done tt) second h y q)

pub both_end : (ts : List Token) (d : Dval) (first : List Token) (c : Spot) (inner : List Token) (e : Dval) (second : List Token) (t : Spot) (rest : List Token) → Takes dval_in d ts first → Takes (mark_in Comma) c first inner
    → Takes dval_in e inner second → Takes (mark_in ParenClose) t second rest → (s : Spot) → in_delays s ts ≡ done tt rest
both_end ts d first c inner e second t rest w v x y s = both_are ts d first c inner e second w v x s ∙ next_takes (mark_in ParenClose) (λ _. done tt) refuse t second rest y
