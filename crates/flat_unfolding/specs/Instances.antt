-- Instances: overrides of parameters and connections of ports.
use Rattle.std.specs.Prelude.{ℕ, Bool, false, cond, not, ◌&&◌, ◌||◌, nat_lt, List, [], ◌∷◌, ◌++◌, length, map, filter, filter_map, flat_map, Option, Some, None, bytes_eq, option_map, option_and_then}
use Rattle.std.specs.Option.{option_map_or, option_or}
use Rattle.cdc_base.specs.declared.fault.Place.{Place}
use Rattle.cdc_base.specs.declared.signal.ResetPin.{ResetPin}
use Rattle.cdc_base.specs.Words.{is_in}
use Rattle.verilog_reading.specs.ExprTree.{ExprTree, name, paren}
use Rattle.verilog_reading.specs.SourceTree.{DeclTree, ConnTree, ConnsTree, ordered, named, ModuleTree}
use Rattle.flat_meaning.specs.Flat.{Expr, size, Target, Whole}
use Rattle.flat_unfolding.specs.Outcome.{Text, Broken, breaks_if}
use Rattle.flat_unfolding.specs.Names.{span, Meaning, a_param, a_signal, Names, Direction, inward, Entry, Look, meaning, meaning_in, reset_at, width_at, bits_read}
use Rattle.flat_unfolding.specs.Constants.{is_counted}
use Rattle.flat_unfolding.specs.Signs.{is_signed, leans}
use Rattle.flat_unfolding.specs.Expressions.{as_constant, read}
use Rattle.flat_unfolding.specs.Targets.{is_input, driven}
use Rattle.flat_unfolding.specs.Parameters.{Override, Overrides, overridable}
use Rattle.flat_unfolding.specs.Declarations.{direction_of, is_inner, header_of, header_decls, item_decls}
use Rattle.flat_unfolding.specs.Design.{Design, assigned, Stage, with_design, change_entry}

-- an expression that is given to the port or parameter of a name; there may be none of that name
pub record Joint : Type 0 where
  pub name : Option Text
  pub value : ExprTree

abbrev pub if_among : List Text → Text → Option Text
if_among names x = cond (is_in names x) (Some x) None

-- by order; an empty entry gives nothing
abbrev pub ordered_joints : List Text → List (Option ExprTree) → List Joint
ordered_joints names [] = []
ordered_joints [] (None ∷ rest) = ordered_joints [] rest
ordered_joints [] (Some e ∷ rest) = record { name = None; value = e } ∷ ordered_joints [] rest
ordered_joints (x ∷ names) (None ∷ rest) = ordered_joints names rest
ordered_joints (x ∷ names) (Some e ∷ rest) = record { name = Some x; value = e } ∷ ordered_joints names rest

-- by name
abbrev pub named_joint : List Text → ConnTree → Option Joint
named_joint names c = option_map (λ (e : ExprTree). record { name = if_among names c.name; value = e }) c.value

abbrev pub joints : List Text → ConnsTree → List Joint
joints names (ordered entries) = ordered_joints names entries
joints names (named conns) = filter_map (named_joint names) conns

-- E306, with the module's name: too many entries, an unknown one, or one that is named twice
abbrev pub unmet : (word : Text) → (names before : List Text) → List ConnTree → List Broken
unmet word names before [] = []
unmet word names before (c ∷ rest) = breaks_if (is_in before c.name || not (is_in names c.name)) 306 word ++ unmet word names (c.name ∷ before) rest

abbrev pub joint_rules : Text → List Text → ConnsTree → List Broken
joint_rules word names (ordered entries) = breaks_if (nat_lt (length names) (length entries)) 306 word
joint_rules word names (named conns) = unmet word names [] conns

-- ---- overrides

-- E307: an override is a constant
abbrev pub override_rules : Look → ModuleTree → ConnsTree → List Broken
override_rules look m given = joint_rules m.name (overridable m) given ++ flat_map (λ (j : Joint). (as_constant (read look j.value)).broken) (joints (overridable m) given)

abbrev pub override : Look → Joint → Option (Text × Override)
override look j = option_map (λ (x : Text). (x, record { value = (read look j.value).expr; is_counted = is_counted look.names j.value; is_signed = is_signed look.names j.value })) j.name

abbrev pub overrides_of : Look → ModuleTree → ConnsTree → Overrides
overrides_of look m given = filter_map (override look) (joints (overridable m) given)

-- ---- connections

-- the direction of a header's name: the first declaration of it that has one
abbrev pub first_direction : Text → List DeclTree → Option Direction
first_direction x [] = None
first_direction x (d ∷ rest) = cond (bytes_eq d.name x && not (is_inner (direction_of d.kind))) (Some (direction_of d.kind)) (first_direction x rest)

abbrev pub port_direction : ModuleTree → Text → Option Direction
port_direction m x = first_direction x (header_decls m ++ map (λ (q : Place × DeclTree). q.1) (item_decls m))

-- an expression that an input takes, with the reset that it resolves to; or the target that an output drives
pub data Link : Type 0 where
  into : Text → Expr → Option ResetPin → Link
  out_of : Text → Target → Link

-- a plain name, in brackets or not, that resolves to a reset
abbrev pub reset_of : Look → ExprTree → Option ResetPin
reset_of look (name x) = go (meaning look x)
  where
    go : Option Meaning → Option ResetPin
    go (Some (a_signal s)) = reset_at look.entries s
    go m = None
reset_of look (paren e) = reset_of look e
reset_of look e = None

-- a connection as it was read: what has no port with a direction is only read
pub record Linked : Type 0 where
  pub link : Option Link
  pub broken : List Broken

module _ (look : Look) (value : ExprTree) where
  abbrev pub only_read : Linked
  only_read = record { link = None; broken = (read look value).broken }

  abbrev pub linked_at : Text → Option Direction → Linked
  linked_at x None = only_read
  linked_at x (Some inward) = let v = read look value in record { link = Some (into x v.expr (reset_of look value)); broken = v.broken }
  linked_at x (Some d) = let a = driven look value in record { link = Some (out_of x a.target); broken = a.broken }

  abbrev pub linked_to : ModuleTree → Option Text → Linked
  linked_to m None = only_read
  linked_to m (Some x) = linked_at x (port_direction m x)

abbrev pub linked : Look → ModuleTree → Joint → Linked
linked look m j = linked_to look j.value m j.name

abbrev pub connection_rules : Look → ModuleTree → ConnsTree → List Broken
connection_rules look m given = joint_rules m.name (header_of m) given ++ flat_map (λ (j : Joint). (linked look m j).broken) (joints (header_of m) given)

abbrev pub links_of : Look → ModuleTree → ConnsTree → List Link
links_of look m given = filter_map (λ (j : Joint). (linked look m j).link) (joints (header_of m) given)

-- an entry that resolves to a reset, unless it is one
abbrev pub resolving_to : Option ResetPin → Entry → Entry
resolving_to r a = record a { reset = option_or a.reset r }

-- a connection is an assignment in the port's direction, before the items of the instance's module; `names` are those of the instance's module.
-- A port that is no declared reset itself resolves to the one that is connected, and an output that is one reads as its inactive level
abbrev pub into_port : Design → Expr → Option ResetPin → Option Meaning → Design
into_port d e r (Some (a_signal s)) = assigned (record d { entries = change_entry (resolving_to r) s d.entries }) (Whole s) e
into_port d e r m = d

abbrev pub out_of_port : Design → Target → Option Meaning → Design
out_of_port d t (Some (a_signal s)) = assigned d t (bits_read false s 0 (width_at d.entries s) (reset_at d.entries s))
out_of_port d t m = d

abbrev pub connect_one : Names → Design → Link → Design
connect_one names d (into x e r) = into_port d e r (meaning_in names x)
connect_one names d (out_of x t) = out_of_port d t (meaning_in names x)

abbrev pub connect_all : Names → Design → List Link → Design
connect_all names d [] = d
connect_all names d (l ∷ rest) = connect_all names (connect_one names d l) rest

abbrev pub connected : List Link → Stage → Stage
connected links s = with_design s (connect_all s.names s.design links)

-- ---- widths of what is given

-- an expression of so many bits that leans, for the input or the parameter of a name
pub record Leaning : Type 0 where
  pub name : Text
  pub bits : ℕ

abbrev pub leaning_joint : Look → Joint → Option Leaning
leaning_joint look j = cond (leans look.names j.value) (option_map (λ (x : Text). record { name = x; bits = size (read look j.value).expr }) j.name) None

abbrev pub takes_input : ModuleTree → Joint → Bool
takes_input m j = option_map_or is_input (option_and_then (port_direction m) j.name) false

abbrev pub leaning_of : Look → ModuleTree → (params ports : ConnsTree) → List Leaning
leaning_of look m params ports =
    filter_map (leaning_joint look) (joints (overridable m) params) ++ filter_map (leaning_joint look) (filter (takes_input m) (joints (header_of m) ports))

-- how many bits a signal takes, or a parameter with a range; one without has those of its expression
abbrev pub taken_bits : List Entry → Option Meaning → ℕ
taken_bits entries (Some (a_signal s)) = width_at entries s
taken_bits entries (Some (a_param p)) = option_map_or span p.range 0
taken_bits entries m = 0

-- IEEE 1364-2005, 12.3.9.2: such an expression would be evaluated at the greater size
abbrev pub is_short : Stage → Leaning → Bool
is_short s l = nat_lt l.bits (taken_bits s.design.entries (meaning_in s.names l.name))
