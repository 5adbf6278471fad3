-- The steps of the reader of events: one for each way out of a function of the parser.
use Rattle.std.proofs.Common.{◌≡◌, ℕ, true, false, List, [], ◌∷◌, ◌++◌, length, None, refl, sym, ap, subst, ◌∙◌, rules}
use Rattle.cdc_base.specs.declared.words.Keyword.TheVariants as k
use Rattle.verilog_ast.specs.declared.Edge.{Edge}
use Rattle.verilog_ast.specs.declared.EdgeKind.{EdgeKind}
use Rattle.verilog_ast.specs.declared.EdgeKind.TheVariants.{Pos, Neg, Level}
use Rattle.verilog_ast.specs.declared.Event.{Event}
use Rattle.verilog_ast.specs.declared.Event.TheVariants as events
use Rattle.verilog_exprs.specs.declared.halt.Halt.{Halt}
use Rattle.verilog_exprs.specs.declared.halt.Halt.TheVariants.{Refused}
use Rattle.verilog_exprs.specs.Halts.{HaltsAs}
use Rattle.verilog_exprs.specs.Next.{Takes, Lacks}
use Rattle.verilog_exprs.proofs.Steps.{halts_then, halts_by, halts_for_memory, next_takes, next_lacks, expect_halts}
use Rattle.verilog_exprs.proofs.Steps.{then_done as then_goes}
use Rattle.verilog_items.proofs.PushSteps.{Reached, reached_first_halts, reached_first, reached_more, reached_halts, reached_open, reached_end}
use Rattle.verilog_lex.specs.declared.token.Token.{Token}
use Rattle.verilog_lex.specs.declared.token.TokenKind.{TokenKind}
use Rattle.verilog_lex.specs.declared.token.TokenKind.TheVariants.{Word, Mark}
use Rattle.verilog_lex.specs.declared.marks.MarkKind.TheVariants.{ParenOpen, ParenClose, Comma, Star, At}
use Rattle.verilog_parse.specs.Forms.{edges_at, PutsEdge}
use Rattle.verilog_reading.specs.ItemReader.{list, edge_name, edge, separator_of, separator_in, in_event, at_event, event}
use Rattle.verilog_reading.specs.ItemReading.{edge_of, Separator}
use Rattle.verilog_reading.specs.Lexemes.{Spot, spot_of, mark_in, mark_of, word_in, word_of, ident_in}
use Rattle.verilog_reading.specs.Outcome.{Outcome, done, next, expect, refuse}
use Rattle.verilog_reading.specs.Reader.{closed}
use Rattle.verilog_reading.proofs.ItemLocal.{local_edge}
use Rattle.verilog_reading.proofs.Tests.{mark_is, word_is}

-- `@`
abbrev behind_at : Spot → List Token → Outcome Event
behind_at _ = at_event

abbrev whole_star : Spot → List Token → Outcome Event
whole_star _ = done events.Star

abbrev behind_paren : Spot → List Token → Outcome Event
behind_paren _ = in_event

pub event_refused : (ts : List Token) (h : Halt) → Lacks (mark_in At) ts → h ≡ Refused false (length ts) → HaltsAs (event ts) h
event_refused ts h w q = expect_halts (mark_in At) behind_at ts h w q

event_begins : (ts : List Token) (s : Spot) (a : List Token) → Takes (mark_in At) s ts a → event ts ≡ at_event a
event_begins ts s a w = next_takes (mark_in At) behind_at refuse s ts a w

pub event_star : (ts : List Token) (s : Spot) (a : List Token) (t : Spot) (rest : List Token) → Takes (mark_in At) s ts a → Takes (mark_in Star) t a rest → event ts ≡ done events.Star rest
event_star ts s a t rest w v = event_begins ts s a w ∙ next_takes (mark_in Star) whole_star (expect (mark_in ParenOpen) behind_paren) t a rest v

event_paren : (ts : List Token) (s : Spot) (a : List Token) → Takes (mark_in At) s ts a → Lacks (mark_in Star) a → event ts ≡ expect (mark_in ParenOpen) behind_paren a
event_paren ts s a w v = event_begins ts s a w ∙ next_lacks (mark_in Star) whole_star (expect (mark_in ParenOpen) behind_paren) a v

pub event_unopened : (ts : List Token) (s : Spot) (a : List Token) (h : Halt) → Takes (mark_in At) s ts a → Lacks (mark_in Star) a → Lacks (mark_in ParenOpen) a → h ≡ Refused false (length a) → HaltsAs (event ts) h
event_unopened ts s a h w v x q = halts_by (event ts) (expect (mark_in ParenOpen) behind_paren a) h (event_paren ts s a w v) (expect_halts (mark_in ParenOpen) behind_paren a h x q)

pub event_is : (ts : List Token) (s : Spot) (a : List Token) (t : Spot) (b : List Token) → Takes (mark_in At) s ts a → Lacks (mark_in Star) a → Takes (mark_in ParenOpen) t a b → event ts ≡ in_event b
event_is ts s a t b w v x = event_paren ts s a w v ∙ next_takes (mark_in ParenOpen) behind_paren refuse t a b x

pub ruleset event_steps = (event_refused, event_star, event_unopened, event_is)

-- inside the parentheses
abbrev closed_star : Spot → List Token → Outcome Event
closed_star _ = closed ParenClose events.Star

pub parens_edges : (ts : List Token) → Lacks (mark_in Star) ts → in_event ts ≡ edges_at ts
parens_edges ts w = next_lacks (mark_in Star) closed_star edges_at ts w

parens_star : (ts : List Token) (s : Spot) (a : List Token) → Takes (mark_in Star) s ts a → in_event ts ≡ closed ParenClose events.Star a
parens_star ts s a w = next_takes (mark_in Star) closed_star edges_at s ts a w

pub parens_open : (ts : List Token) (s : Spot) (a : List Token) (h : Halt) → Takes (mark_in Star) s ts a → Lacks (mark_in ParenClose) a → h ≡ Refused false (length a) → HaltsAs (in_event ts) h
parens_open ts s a h w v q = halts_by (in_event ts) (closed ParenClose events.Star a) h (parens_star ts s a w) (expect_halts (mark_in ParenClose) (λ _. done events.Star) a h v q)

pub parens_done : (ts : List Token) (s : Spot) (a : List Token) (t : Spot) (rest : List Token) → Takes (mark_in Star) s ts a → Takes (mark_in ParenClose) t a rest → in_event ts ≡ done events.Star rest
parens_done ts s a t rest w v = parens_star ts s a w ∙ next_takes (mark_in ParenClose) (λ _. done events.Star) refuse t a rest v

pub ruleset parens_steps = (parens_edges, parens_open, parens_done)

-- what stands between edges
pub comma_separates : (s : Spot) (ts rest : List Token) → Takes (mark_in Comma) s ts rest → (z : Separator) × Takes separator_in z ts rest
comma_separates s ts rest w = (record { comma = true; spot = s }, record { token = w.token; is = w.is; finds = ap separator_in (mark_is Comma w.token s w.finds) })

pub or_separates : (s : Spot) (ts rest : List Token) → Takes (word_in k.Or) s ts rest → (z : Separator) × Takes separator_in z ts rest
or_separates s ts rest w = (record { comma = false; spot = s }, record { token = w.token; is = w.is; finds = ap separator_in (word_is k.Or w.token s w.finds) })

no_separator : (x : TokenKind) (s : Spot) → mark_of Comma x s ≡ None → word_of k.Or x s ≡ None → separator_of x s ≡ None
no_separator (Mark Comma) s e f = absurd (search (rules, e))
no_separator (Word k.Or) s e f = absurd (search (rules, f))
no_separator x s e f = refl

pub none_separates : (ts : List Token) → Lacks (mark_in Comma) ts → Lacks (word_in k.Or) ts → Lacks separator_in ts
none_separates [] v w = record { free = tt }
none_separates (t ∷ ts) v w = record { free = no_separator t.kind (spot_of t) v.free w.free }

pub ruleset separator_steps = (comma_separates, or_separates, none_separates)

-- edges
abbrev negative_or_level : List Token → Outcome Edge
negative_or_level = next (word_in k.NegEdge) (λ _. edge_name Neg) (edge_name Level)

pub edge_positive : (ts : List Token) (s : Spot) (rest : List Token) → Takes (word_in k.PosEdge) s ts rest → edge ts ≡ edge_name Pos rest
edge_positive ts s rest w = next_takes (word_in k.PosEdge) (λ _. edge_name Pos) negative_or_level s ts rest w

pub edge_negative : (ts : List Token) (s : Spot) (rest : List Token) → Lacks (word_in k.PosEdge) ts → Takes (word_in k.NegEdge) s ts rest → edge ts ≡ edge_name Neg rest
edge_negative ts s rest v w = next_lacks (word_in k.PosEdge) (λ _. edge_name Pos) negative_or_level ts v ∙ next_takes (word_in k.NegEdge) (λ _. edge_name Neg) (edge_name Level) s ts rest w

pub edge_level : (ts : List Token) → Lacks (word_in k.PosEdge) ts → Lacks (word_in k.NegEdge) ts → edge ts ≡ edge_name Level ts
edge_level ts v w = next_lacks (word_in k.PosEdge) (λ _. edge_name Pos) negative_or_level ts v ∙ next_lacks (word_in k.NegEdge) (λ _. edge_name Neg) (edge_name Level) ts w

pub ruleset kind_steps = (edge_positive, edge_negative, edge_level)

pub edge_refused : (ts : List Token) (kind : EdgeKind) (a : List Token) (h : Halt) → edge ts ≡ edge_name kind a → Lacks ident_in a → h ≡ Refused false (length a) → HaltsAs (edge ts) h
edge_refused ts kind a h e w q = halts_by (edge ts) (edge_name kind a) h e (expect_halts ident_in (λ n. done (edge_of kind n.name)) a h w q)

pub edge_read : (ts : List Token) (kind : EdgeKind) (a : List Token) (m : List ℕ) (s : Spot) (rest : List Token) (old new : List Edge) (c : List ℕ) → edge ts ≡ edge_name kind a → Takes ident_in (record { name = m; spot = s }) a rest
    → new ≡ old ++ edge_of kind c ∷ [] → c ≡ m → PutsEdge (edge ts) old new rest
edge_read ts kind a m s rest old new c e w p q = (
  edge_of kind m,
  e ∙ next_takes ident_in (λ n. done (edge_of kind n.name)) refuse (record { name = m; spot = s }) a rest w,
  p ∙ ap (λ z. old ++ edge_of kind z ∷ []) q,
)

pub ruleset edge_steps = (edge_refused, edge_read, halts_for_memory)

-- lists of edges
abbrev all_edges : List Token → Outcome (List Edge)
all_edges = list separator_in ParenClose edge edge

abbrev pub EdgesOn : List Token → List Edge → List Token → Type 0
EdgesOn start es rest = Reached separator_in ParenClose edge edge (list separator_in ParenClose edge edge start) es rest

pub edges_first_halts : (ts : List Token) (h : Halt) → HaltsAs (edge ts) h → HaltsAs (edges_at ts) h
edges_first_halts ts h x = halts_then (all_edges ts) (λ a. done (events.Edges a)) h (reached_first_halts separator_in ParenClose edge edge ts h x)

pub edges_first : (ts rest : List Token) (old new : List Edge) → old ≡ [] → PutsEdge (edge ts) old new rest → EdgesOn ts new rest
edges_first ts rest old new e x = subst (λ z. EdgesOn ts z rest) (ap (λ z. z ++ x.0 ∷ []) (sym e) ∙ sym x.2) (reached_first separator_in ParenClose edge edge ts x.0 rest x.1)

pub edges_more : (begin : List Token) (xs ys : List Edge) (z : Separator) (ts after rest : List Token) → EdgesOn begin xs ts → Takes separator_in z ts after → PutsEdge (edge after) xs ys rest → EdgesOn begin ys rest
edges_more begin xs ys z ts after rest g w x = subst (λ z. EdgesOn begin z rest) (sym x.2) (reached_more separator_in ParenClose edge edge local_edge (all_edges begin) xs z ts after x.0 rest g w x.1)

pub edges_stop : (begin : List Token) (xs : List Edge) (z : Separator) (ts after : List Token) (h : Halt) → EdgesOn begin xs ts → Takes separator_in z ts after → HaltsAs (edge after) h → HaltsAs (edges_at begin) h
edges_stop begin xs z ts after h g w x = halts_then (all_edges begin) (λ a. done (events.Edges a)) h (reached_halts separator_in ParenClose edge edge (all_edges begin) xs z ts after h g w x)

pub edges_open : (begin : List Token) (xs : List Edge) (ts : List Token) (h : Halt) → EdgesOn begin xs ts → Lacks separator_in ts → Lacks (mark_in ParenClose) ts → h ≡ Refused false (length ts) → HaltsAs (edges_at begin) h
edges_open begin xs ts h g v w q = halts_then (all_edges begin) (λ a. done (events.Edges a)) h (reached_open separator_in ParenClose edge edge (all_edges begin) xs ts h g v w q)

pub edges_end : (begin : List Token) (xs : List Edge) (ts : List Token) (s : Spot) (rest : List Token) → EdgesOn begin xs ts → Lacks separator_in ts → Takes (mark_in ParenClose) s ts rest → edges_at begin ≡ done (events.Edges xs) rest
edges_end begin xs ts s rest g v w = then_goes (all_edges begin) (λ a. done (events.Edges a)) xs rest (reached_end separator_in ParenClose edge edge (all_edges begin) xs ts s rest g v w)

pub ruleset edges_steps = (edges_first_halts, edges_first, edges_more, edges_stop, edges_open, edges_end)
