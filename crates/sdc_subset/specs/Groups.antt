-- Groups of clocks.
use Rattle.std.specs.Prelude.{◌==◌, ◌&&◌, ◌||◌, Bool, List, [], ◌∷◌, ◌++◌, map, codes, length, Option, None, Some, is_none, if◌then◌else◌}
use Rattle.std.specs.List.{list_any, list_all}
use Rattle.std.specs.Str.{bytes_eq}
use Rattle.cdc_base.specs.declared.fault.Fault.{Fault}
use Rattle.clock_constraints.specs.Refusals.{Text, broken}
use Rattle.clock_constraints.specs.Names.{first_again}
use Rattle.sdc_subset.specs.declared.groups.Member.{Member}
use Rattle.sdc_subset.specs.Commands.{head}

-- the names of all lists
abbrev pub listed : List (List Text) → List Text
listed [] = []
listed (l ∷ ls) = l ++ listed ls

-- whether the names are all among the others
abbrev pub are_among : List Text → List Text → Bool
are_among others names = list_all (λ n. list_any (bytes_eq n) others) names

-- whether a list has each of the names once, and no other
abbrev pub has_each_once : List Text → List Text → Bool
has_each_once names ns = is_none (first_again [] ns) && are_among ns names && are_among names ns

-- lists that don't name each clock exactly once, or name another; without lists no group is stated
abbrev pub wrong_groups : List Text → List (List Text) → Option Fault
wrong_groups names lists =
    if length lists == 0 || has_each_once names (listed lists) then None else Some (broken 413 (codes "set_clock_groups"))

-- where no group is stated, all clocks are of one
abbrev pub lists_or_one : List Text → List (List Text) → List (List Text)
lists_or_one names lists = if length lists == 0 then names ∷ [] else lists

-- the clocks of all lists, each with its group, which has the name of the first clock of the list
abbrev pub members : List (List Text) → List Member
members [] = []
members (l ∷ ls) = map (λ n. record { clock = n; group = head l }) l ++ members ls

-- the group of a clock
abbrev pub group_in : List Member → Text → Text
group_in [] clock = []
group_in (m ∷ ms) clock = if bytes_eq clock m.clock then m.group else group_in ms clock
