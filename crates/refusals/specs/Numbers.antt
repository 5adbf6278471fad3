-- Which rules a layer may refuse by.
use Rattle.std.specs.Prelude.{ℕ, ◌≡◌, ◌==◌, List, [], ◌∷◌, ◌++◌, Bool, true}
use Rattle.std.specs.List.{list_any}
use Rattle.cdc_base.specs.declared.fault.Stop.{Stop}
use Rattle.cdc_base.specs.declared.fault.Stop.TheVariants.{Refused, Memory}

-- whether the number is listed
abbrev pub is_listed : List ℕ → ℕ → Bool
is_listed numbers number = list_any (λ listed. number == listed) numbers

-- want of memory, or a refusal with one of these numbers
abbrev pub HasNumberIn : List ℕ → Stop → Type 0
HasNumberIn numbers Memory = Unit {0}
HasNumberIn numbers (Refused fault) = is_listed numbers fault.number ≡ true

-- the rules of tokens
abbrev pub token_numbers : List ℕ
token_numbers = 101 ∷ 102 ∷ 103 ∷ 104 ∷ 105 ∷ []

-- no reading, or one that is nested too deep
abbrev pub grammar_numbers : List ℕ
grammar_numbers = 201 ∷ 202 ∷ []

-- the rules of an unfolding, and the limit on its signals
abbrev pub unfolding_numbers : List ℕ
unfolding_numbers =
    301 ∷ 302 ∷ 303 ∷ 304 ∷ 305 ∷ 306 ∷ 307 ∷ 308 ∷ 309 ∷ 310 ∷ 311 ∷ 313 ∷ 314 ∷ 315 ∷ 316 ∷ 317 ∷ 319 ∷ 601 ∷ []

-- a combinational loop, and the limits on cells and on state bits
abbrev pub elaboration_numbers : List ℕ
elaboration_numbers = 312 ∷ 602 ∷ 605 ∷ []

-- the limit on crossings
abbrev pub crossing_numbers : List ℕ
crossing_numbers = 603 ∷ []

-- the rules of a constraint file
abbrev pub constraint_numbers : List ℕ
constraint_numbers = 401 ∷ 402 ∷ 404 ∷ 409 ∷ 410 ∷ []

-- the rules of constraints over a net
abbrev pub assignment_numbers : List ℕ
assignment_numbers = 403 ∷ 405 ∷ 406 ∷ 407 ∷ 408 ∷ []

-- a waiver that meets no finding
abbrev pub waiver_numbers : List ℕ
waiver_numbers = 411 ∷ []

-- what a netlist may be refused for, once it was read
abbrev pub netlist_numbers : List ℕ
netlist_numbers = token_numbers ++ grammar_numbers ++ unfolding_numbers ++ elaboration_numbers ++ crossing_numbers

-- what constraints may be refused for, once they were read
abbrev pub all_constraint_numbers : List ℕ
all_constraint_numbers = constraint_numbers ++ assignment_numbers ++ waiver_numbers
