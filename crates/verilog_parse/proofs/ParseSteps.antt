-- From the reading of tokens, or its end, to what the parser answers.
use Rattle.std.proofs.Common.{◌≡◌, ◌≤◌, ℕ, suc, get_or, length-append, ◌+◌, ◌-◌, Bool, List, [], ◌∷◌, ◌++◌, length, Option, Some, None, refl, sym, ap, subst, ◌∙◌, rules, arith}
use Rattle.std.specs.List.{slice_get}
use Rattle.std.proofs.lemmas.Option.{get_or_from_slice_get, slice_get_within}
use Rattle.cdc_base.specs.declared.fault.Fault.{Fault}
use Rattle.cdc_base.specs.declared.fault.Place.{Place}
use Rattle.cdc_base.specs.declared.fault.Stop.{Stop}
use Rattle.cdc_base.specs.declared.fault.Stop.TheVariants as stop
use Rattle.verilog_ast.specs.declared.Source.{Source}
use Rattle.verilog_ast.specs.Depth.{source_depth}
use Rattle.verilog_exprs.specs.declared.halt.Halt.{Halt}
use Rattle.verilog_exprs.specs.declared.halt.Halt.TheVariants as halt
use Rattle.verilog_exprs.specs.Halts.{HaltsAs, by_memory, by_refusal}
use Rattle.verilog_lex.specs.declared.token.Token.{Token}
use Rattle.verilog_parse.specs.Refusals.{number_of, RefusesFirst, TellsWhere}
use Rattle.verilog_reading.specs.ItemReader.{read_source}
use Rattle.verilog_reading.specs.ItemReading.{IsSource}
use Rattle.verilog_reading.specs.Outcome.{done}
use Rattle.verilog_reading.specs.Refusals.{IsEnded}
use Rattle.verilog_reading.specs.SourceTree.{ModuleTree, source_of, source_height}
use Rattle.verilog_reading.specs.Stands.{SourceEnds}
use Rattle.verilog_reading.proofs.Depths.{source_same}
use Rattle.verilog_reading.proofs.Exact.{exact}
use Rattle.verilog_reading.proofs.ItemComplete.{c_source}
use Rattle.verilog_reading.proofs.Unique.{one_reading}

-- the first of the tokens that are left
get_behind : (before : List Token) (t : Token) (more : List Token) → slice_get (before ++ t ∷ more) (length before) ≡ Some t
get_behind [] t more = refl
get_behind (x ∷ xs) t more = get_behind xs t more

pub token_left : (ts before : List Token) (t : Token) (more : List Token) (left at : ℕ) → ts ≡ before ++ t ∷ more → left ≡ length (t ∷ more) → at ≡ length ts - left → slice_get ts at ≡ Some t
token_left ts before t more left at e f g =
    let l : length ts ≡ length before + length (t ∷ more) = ap length e ∙ length-append before (t ∷ more) in
    let i : at ≡ length before = omega (arith, l, f, g) in
    ap (slice_get ts) i ∙ ap (λ z. slice_get z (length before)) e ∙ get_behind before t more

-- halts of a form
halt_deep : Bool → Halt → Bool
halt_deep b (halt.Refused deep left) = deep
halt_deep b halt.Memory = b

halt_left : ℕ → Halt → ℕ
halt_left n (halt.Refused deep left) = left
halt_left n halt.Memory = n

stop_fault : Fault → Stop → Fault
stop_fault f (stop.Refused g) = g
stop_fault f stop.Memory = f

pub stops_for_memory : (ts : List Token) (h : Halt) (s : Stop) → s ≡ stop.Memory → TellsWhere ts h s
stops_for_memory ts h s e before t more deep f x y z = absurd (search (rules, sym e ∙ z))

pub told_where : (ts : List Token) (h : Halt) (s : Stop) (deep : Bool) (left : ℕ) (g : Fault) → h ≡ halt.Refused deep left → s ≡ stop.Refused g → g.number ≡ number_of deep → g.name ≡ []
    → ((t : Token) → slice_get ts (length ts - left) ≡ Some t → g.place ≡ Some t.place) → TellsWhere ts h s
unfolding halt_deep halt_left stop_fault
told_where ts h s deep left g e k n m p before t more d f x y z =
    let b : deep ≡ d = ap (halt_deep deep) (sym e ∙ y) in
    let l : left ≡ length (t ∷ more) = ap (halt_left left) (sym e ∙ y) in
    let q : g ≡ f = ap (stop_fault g) (sym k ∙ z) in
    record {
      number = subst (λ (u : Fault). u.number ≡ number_of d) q (n ∙ ap number_of b);
      name = subst (λ (u : Fault). u.name ≡ []) q m;
      place = subst (λ (u : Fault). u.place ≡ Some t.place) q (p t (token_left ts before t more left (length ts - left) x l refl));
    }

pub ruleset halt_steps = (stops_for_memory, told_where)

-- the place of a token by its number
pub place_found : (ts : List Token) (i j : ℕ) (x : Token) → x ≡ get_or ts i x → i ≡ j → (t : Token) → slice_get ts j ≡ Some t → ◌≡◌ {A = Option Place} (Some x.place) (Some t.place)
place_found ts i j x e q t w = ap (λ (y : Token). Some y.place) (e ∙ ap (λ k. get_or ts k x) q ∙ get_or_from_slice_get ts j t x w)

pub place_past : (ts : List Token) (i j : ℕ) → length ts ≤ i → i ≡ j → (t : Token) → slice_get ts j ≡ Some t → ◌≡◌ {A = Option Place} None (Some t.place)
place_past ts i j h q t w = absurd (omega (arith, h, q, slice_get_within ts j t w))

-- what was read
abbrev pub IsRead : ℕ → List Token → Source → Type 0
IsRead n ts s = (rest : List Token) × (read_source n ts ≡ done (source_of s) rest)

pub reading_of : (n : ℕ) (ts : List Token) (s : Source) → IsRead n ts s → IsEnded ts → IsSource ts (source_of s)
reading_of n ts s r e = ((exact n ts e).accepted (source_of s) r.0 r.1).1

pub depth_of : (n : ℕ) (ts : List Token) (s : Source) → IsRead n ts s → IsEnded ts → source_depth s ≤ suc n
depth_of n ts s r e = (source_same s n).1 ((exact n ts e).accepted (source_of s) r.0 r.1).2

pub one_of : (n : ℕ) (ts : List Token) (s : Source) → IsRead n ts s → IsEnded ts → (ms : List ModuleTree) → IsSource ts ms → ms ≡ source_of s
one_of n ts s r e ms m = one_reading IsSource source_height SourceEnds read_source (λ u a p k h rest _. c_source p k h rest) (λ a. tt) ts ms (source_of s) m (reading_of n ts s r e)

pub ruleset parse_steps = (reading_of, depth_of, one_of)

-- what was refused
pub refuses_first : (n : ℕ) (ts : List Token) (h : Halt) (s : Stop) → HaltsAs (read_source n ts) h → (h ≡ halt.Memory → s ≡ stop.Memory) → TellsWhere ts h s → IsEnded ts → RefusesFirst n ts s
refuses_first n ts halt.Memory s by_memory m w e f q = absurd (search (rules, sym (m refl) ∙ q))
refuses_first n ts _ s (by_refusal deep rest r) m w e f q = let x = (exact n ts e).refused deep rest r in record {
  deep = deep;
  before = x.0;
  token = x.1;
  more = x.2;
  is = x.4;
  first = x.5;
  tells = w x.0 x.1 x.2 deep f x.4 (ap (λ z. halt.Refused deep (length z)) x.3) q;
}
