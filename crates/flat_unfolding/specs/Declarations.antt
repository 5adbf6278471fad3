-- Declarations of a module: its signals and memories.
use Rattle.std.specs.Prelude.{ℕ, ◌+◌, Bool, true, false, cond, not, ◌&&◌, ◌||◌, ◌==◌, nat_lt, List, [], ◌∷◌, ◌++◌, length, map, filter, flat_map, filter_map, Option, Some, None, is_some, is_none, slice_get}
use Rattle.std.specs.Option.{option_map_or}
use Rattle.cdc_base.specs.declared.fault.Place.{Place}
use Rattle.cdc_base.specs.Words.{is_in}
use Rattle.verilog_ast.specs.declared.DeclKind.{DeclKind}
use Rattle.verilog_ast.specs.declared.DeclKind.TheVariants as k
use Rattle.verilog_reading.specs.SourceTree.{Bounds, DeclTree, PortTree, ItemTree, BodyTree, decl, ModuleTree}
use Rattle.flat_unfolding.specs.Outcome.{Text, Broken, breaks, breaks_if, Outcome, good, then_, each, refused, refused_if, Order, as_listed, judged}
use Rattle.flat_unfolding.specs.Names.{Range, Meaning, a_signal, a_memory, no_value, Names, is_declared, Direction, inner, inward, outward, Entry, Look, meaning, range_at, printed_part}
use Rattle.flat_unfolding.specs.Targets.{is_input}
use Rattle.flat_unfolding.specs.Memories.{words_of, word_names, taken}
use Rattle.flat_unfolding.specs.Parameters.{range_read, bounds_read}
use Rattle.flat_unfolding.specs.Design.{Stage, look_of, with_design, change_entry}

abbrev pub direction_of : DeclKind → Direction
direction_of k.Input = inward
direction_of k.Output = outward
direction_of k.OutputReg = outward
direction_of k.Wire = inner
direction_of k.Reg = inner

abbrev pub is_inner : Direction → Bool
is_inner inner = true
is_inner inward = false
is_inner outward = false

abbrev pub is_reg_kind : DeclKind → Bool
is_reg_kind k.Reg = true
is_reg_kind k.OutputReg = true
is_reg_kind kind = false

-- an old-style port that may be declared once more: an output as `wire` or `reg`, an input as `wire`
abbrev pub is_plain_port : DeclKind → Bool
is_plain_port k.Input = true
is_plain_port k.Output = true
is_plain_port kind = false

abbrev pub may_be_again : DeclKind → Entry → Bool
may_be_again kind e = e.is_open && not (is_reg_kind kind && is_input e.direction)

-- kinds that take no value
abbrev pub is_bare : DeclKind → Bool
is_bare k.Input = true
is_bare k.Output = true
is_bare kind = false

abbrev pub same_range : Option Range → Option Range → Bool
same_range None None = true
same_range (Some r) (Some q) = (r.left == q.left) && (r.right == q.right)
same_range r q = false

-- the order of trial of one declaration; E601 comes behind all of them
abbrev pub declaration_order : Order
declaration_order = as_listed (304 ∷ 305 ∷ 306 ∷ 319 ∷ 307 ∷ 308 ∷ [])

-- where a declaration stands: the printed names of the instances from the top on, the header's names, and whether it stands there
pub record Site : Type 0 where
  pub prefix : Text
  pub header : List Text
  pub in_header : Bool
  pub place : Place

-- the signal that is declared once more
abbrev pub if_open : DeclKind → List Entry → Option Meaning → Option ℕ
if_open kind entries (Some (a_signal s)) = cond (option_map_or (may_be_again kind) (slice_get entries s) false) (Some s) None
if_open kind entries m = None

abbrev pub again : Look → DeclTree → Option ℕ
again look d = cond (is_inner (direction_of d.kind) && is_none d.array) (if_open d.kind look.entries (meaning look d.name)) None

-- E306: a direction for a name that isn't in the header, or a value where none may stand
abbrev pub breaks_form : Site → DeclTree → Bool
breaks_form at d = (not (is_inner (direction_of d.kind)) && not at.in_header && not (is_in at.header d.name)) || (is_some d.init && (is_bare d.kind || is_some d.array))

-- E306: it is declared again with another range, or one of the two has none
abbrev pub range_rule : Look → DeclTree → Option Range → Option ℕ → List Broken
range_rule look d r None = []
range_rule look d r (Some s) = breaks_if (not (same_range (range_at look.entries s) r) || (is_some d.range && is_none r)) 306 d.name

-- the words that an array declares, with the rules that it breaks: of its bounds' own rules E305 alone, then E319, or E304 of a word's name
pub record Words : Type 0 where
  pub count : Option ℕ
  pub broken : List Broken

abbrev pub count_rules : Look → DeclTree → Option ℕ → List Broken
count_rules look d None = breaks 319 d.name
count_rules look d (Some n) = taken look.names (word_names d.name 0 n)

abbrev pub array_read : Look → DeclTree → Option Bounds → Words
array_read look d None = record { count = None; broken = [] }
array_read look d (Some b) = let a = bounds_read look b in let n = words_of d.kind a.range in
    record { count = n; broken = filter (λ (x : Broken). x.number == 305) a.broken ++ count_rules look d n }

abbrev pub declaration_rules : Look → Site → DeclTree → List Broken
declaration_rules look at d = let r = range_read look d.name d.range in
    breaks_if (is_none (again look d) && is_declared look.names d.name) 304 d.name ++ breaks_if (breaks_form at d) 306 d.name
    ++ r.broken ++ range_rule look d r.range (again look d) ++ (array_read look d d.array).broken

-- ---- what a declaration adds

abbrev pub entry : Site → DeclKind → Option Range → (is_open : Bool) → Text → Entry
entry at kind r is_open x = record {
  own = x;
  printed = at.prefix ++ printed_part x;
  place = at.place;
  range = r;
  is_reg = is_reg_kind kind;
  direction = direction_of kind;
  is_open = is_open;
  is_top_input = false;
  reset = None;
}

-- E601: a design has 1,048,576 signals at most
abbrev pub added : Stage → List Entry → Names → Outcome Stage
added s es names = then_ (refused_if (nat_lt 1048576 (length s.design.entries + length es)) 601 None [])
    (λ u. good (record { names = s.names ++ names; design = record s.design { entries = s.design.entries ++ es } }))

-- the printed names of words are taken, and stand for nothing
abbrev pub taken_names : List Text → Names
taken_names words = map (λ x. (x, no_value)) words

abbrev pub add_signal : Stage → Site → DeclTree → Option Range → Outcome Stage
add_signal s at d r = added s (entry at d.kind r (is_plain_port d.kind && not at.in_header) d.name ∷ []) ((d.name, a_signal (length s.design.entries)) ∷ [])

abbrev pub add_memory : Stage → Site → DeclTree → Option Range → ℕ → Outcome Stage
add_memory s at d r n = let first = length s.design.entries in let words = word_names d.name 0 n in
    added s (map (entry at d.kind r false) words) (taken_names words ++ ((d.name, a_memory (record { first = first; words = n })) ∷ []))

abbrev pub declared_again : DeclKind → Entry → Entry
declared_again kind e = record e { is_open = false; is_reg = is_reg_kind kind }

abbrev pub add_declared : Stage → Site → DeclTree → Option Range → (again words : Option ℕ) → Outcome Stage
add_declared s at d r (Some sig) n = good (with_design s (record s.design { entries = change_entry (declared_again d.kind) sig s.design.entries }))
add_declared s at d r None (Some n) = add_memory s at d r n
add_declared s at d r None None = add_signal s at d r

abbrev pub declaration : Stage → Site × DeclTree → Outcome Stage
declaration s q = let look = look_of s in
    then_ (judged declaration_order q.0.place (declaration_rules look q.0 q.1) (tt {0}))
    (λ u. add_declared s q.0 q.1 (range_read look q.1.name q.1.range).range (again look q.1) (array_read look q.1 q.1.array).count)

-- ---- the declarations of a module

abbrev pub header_of : ModuleTree → List Text
header_of m = map (λ (p : PortTree). p.name) m.ports

abbrev pub decl_in : ItemTree → List (Place × DeclTree)
decl_in i = go i.body
  where
    go : BodyTree → List (Place × DeclTree)
    go (decl d) = (i.place, d) ∷ []
    go b = []

abbrev pub item_decls : ModuleTree → List (Place × DeclTree)
item_decls m = flat_map decl_in m.items

abbrev pub header_decls : ModuleTree → List DeclTree
header_decls m = filter_map (λ (p : PortTree). p.decl) m.ports

abbrev pub sites : Text → ModuleTree → List (Site × DeclTree)
sites prefix m =
    map (λ d. (record { prefix = prefix; header = header_of m; in_header = true; place = m.place }, d)) (header_decls m)
    ++ map (λ (q : Place × DeclTree). (record { prefix = prefix; header = header_of m; in_header = false; place = q.0 }, q.1)) (item_decls m)

-- E304: the first name that stands in a header behind itself; the names of an ANSI header are declarations
abbrev pub twice_among : (before names : List Text) → Option Text
twice_among before [] = None
twice_among before (x ∷ rest) = cond (is_in before x) (Some x) (twice_among (x ∷ before) rest)

abbrev pub header_twice : ModuleTree → Outcome (Unit {0})
header_twice m = cond m.ansi (good tt) (go (twice_among [] (header_of m)))
  where
    go : Option Text → Outcome (Unit {0})
    go None = good tt
    go (Some x) = refused 304 (Some m.place) x

-- E306: a header name without a direction
abbrev pub has_direction : Look → Text → Bool
has_direction look x = go (meaning look x)
  where
    go : Option Meaning → Bool
    go (Some (a_signal s)) = option_map_or (λ (e : Entry). not (is_inner e.direction)) (slice_get look.entries s) false
    go m = false

abbrev pub directed : ModuleTree → Stage → Text → Outcome Stage
directed m s x = then_ (refused_if (not (has_direction (look_of s) x)) 306 (Some m.place) x) (λ u. good s)

abbrev pub declarations : Text → ModuleTree → Stage → Outcome Stage
declarations prefix m s = then_ (header_twice m) (λ u. then_ (each declaration s (sites prefix m)) (λ t. each (directed m) t (header_of m)))
