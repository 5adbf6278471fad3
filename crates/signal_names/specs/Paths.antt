-- Printed names of signals: the names of the instances from the top on, each with its dot, and the signal's own.
use Rattle.std.specs.Prelude.{◌≡◌, Bool, true, false, List, [], ◌∷◌, ◌++◌, flat_map, codes}
use Rattle.std.specs.List.{list_all}
use Rattle.cdc_base.specs.Bytes.{in_class}
use Rattle.cdc_base.specs.declared.bytes.Class.TheVariants.{Visible}
use Rattle.flat_unfolding.specs.Outcome.{Text}
use Rattle.flat_unfolding.specs.Names.{printed_part}

-- some bytes, each of them visible
abbrev pub is_visible : Text → Bool
is_visible [] = false
is_visible (b ∷ bs) = list_all (in_class Visible) (b ∷ bs)

abbrev pub prefix_text : List Text → Text
prefix_text path = flat_map (λ x. printed_part x ++ codes ".") path

abbrev pub path_text : List Text → Text → Text
path_text path x = prefix_text path ++ printed_part x

-- a text is a printed name behind a prefix
pub record IsPrinted (prefix text : Text) : Type 0 where
  pub path : List Text
  pub own : Text
  pub visible_path : list_all is_visible path ≡ true
  pub visible : is_visible own ≡ true
  pub is : text ≡ prefix ++ path_text path own
