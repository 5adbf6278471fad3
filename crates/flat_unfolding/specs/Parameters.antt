-- Parameters of a module.
use Rattle.std.specs.Prelude.{◌^◌, Bool, false, cond, ◌&&◌, nat_lt, nat_le, is_none, List, [], ◌∷◌, ◌++◌, flat_map, map, Option, Some, None}
use Rattle.std.specs.Option.{option_map_or}
use Rattle.cdc_base.specs.declared.fault.Place.{Place}
use Rattle.cdc_base.specs.Words.{found_in}
use Rattle.verilog_reading.specs.SourceTree.{Bounds, ParamTree, ItemTree, BodyTree, param, ModuleTree}
use Rattle.flat_meaning.specs.Flat.{Expr, size}
use Rattle.flat_unfolding.specs.Outcome.{Text, Broken, breaks_if, Outcome, each, Order, as_listed, judged}
use Rattle.flat_unfolding.specs.Names.{Range, span, Param, a_param, is_declared, Look}
use Rattle.flat_unfolding.specs.Constants.{own_value, assigned_value, is_counted}
use Rattle.flat_unfolding.specs.Signs.{is_signed}
use Rattle.flat_unfolding.specs.Expressions.{is_empty, as_constant, as_bound, range_of, read}
use Rattle.flat_unfolding.specs.Design.{Stage, look_of}

-- a declared range as it was read
pub record Ranged : Type 0 where
  pub range : Option Range
  pub broken : List Broken

abbrev pub is_wide : Option Range → Bool
is_wide r = option_map_or (λ (b : Range). nat_lt 64 (span b)) r false

abbrev pub bounds_read : Look → Bounds → Ranged
bounds_read look b = let l = as_bound (read look b.left) in let r = as_bound (read look b.right) in
    record { range = range_of l r; broken = l.broken ++ r.broken }

-- E308 has the declared name where the range is over 64
abbrev pub range_read : Look → Text → Option Bounds → Ranged
range_read look x None = record { range = None; broken = [] }
range_read look x (Some b) = let a = bounds_read look b in record a { broken = a.broken ++ breaks_if (is_wide a.range) 308 x }

-- a constant that an instance gives in place of a parameter's value
pub record Override : Type 0 where
  pub value : Expr
  pub is_counted : Bool
  pub is_signed : Bool

abbrev pub Overrides : Type 0
Overrides = List (Text × Override)

-- with a range a parameter takes its value as in an assignment to that width, and is neither counted nor signed; without one it has its expression's own size
abbrev pub held : Option Range → Expr → (counted signed : Bool) → Param
held None e counted signed = record { value = assigned_value e (size e); width = size e; is_counted = counted; is_signed = signed; range = None }
held (Some r) e counted signed = record { value = assigned_value e (span r); width = span r; is_counted = false; is_signed = false; range = Some r }

-- the order of trial of one parameter
abbrev pub parameter_order : Order
parameter_order = as_listed (305 ∷ 304 ∷ 307 ∷ 308 ∷ [])

-- what a parameter's value is, and the rules that it breaks; an override takes its place
pub record Valued : Type 0 where
  pub value : Expr
  pub is_counted : Bool
  pub is_signed : Bool
  pub broken : List Broken

abbrev pub value_of : Look → ParamTree → Option Override → Valued
value_of look p None = let v = as_constant (read look p.value) in record { value = v.expr; is_counted = is_counted look.names p.value; is_signed = is_signed look.names p.value; broken = v.broken }
value_of look p (Some o) = record { value = o.value; is_counted = o.is_counted; is_signed = o.is_signed; broken = [] }

-- E307: without a range a signed value is at most 2^31 - 1
abbrev pub sign_rule : Option Bounds → Valued → List Broken
sign_rule r v = breaks_if (is_none r && v.is_signed && is_empty v.broken && nat_le (2 ^ 31) (own_value v.value)) 307 []

-- a `localparam` has no override
abbrev pub override_of : Overrides → ParamTree → Option Override
override_of overrides p = cond p.local None (found_in overrides p.name)

abbrev pub parameter : Overrides → Stage → Place × ParamTree → Outcome Stage
parameter overrides s q = let look = look_of s in let r = range_read look q.1.name q.1.range in let v = value_of look q.1 (override_of overrides q.1) in
    judged parameter_order q.0 (breaks_if (is_declared s.names q.1.name) 304 q.1.name ++ r.broken ++ v.broken ++ sign_rule q.1.range v)
    (record s { names = s.names ++ ((q.1.name, a_param (held r.range v.value v.is_counted v.is_signed)) ∷ []) })

abbrev pub param_in : ItemTree → List (Place × ParamTree)
param_in i = go i.body
  where
    go : BodyTree → List (Place × ParamTree)
    go (param p) = (i.place, p) ∷ []
    go b = []

-- all parameters with their places, those of the header first
abbrev pub params_of : ModuleTree → List (Place × ParamTree)
params_of m = map (λ p. (m.place, p)) m.params ++ flat_map param_in m.items

abbrev pub parameters : Overrides → ModuleTree → Stage → Outcome Stage
parameters overrides m s = each (parameter overrides) s (params_of m)

-- the names that an instance may override, in textual order
abbrev pub overridable : ModuleTree → List Text
overridable m = flat_map (λ (q : Place × ParamTree). cond q.1.local [] (q.1.name ∷ [])) (params_of m)
