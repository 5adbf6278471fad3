-- The levels of declared resets, as they are found by name.
use Rattle.std.proofs.Common.{◌≡◌, ℕ, ◌+◌, ◌<◌, Bool, true, false, not, cond, List, [], ◌∷◌, ◌++◌, length, map, drop, get_or, Option, Some, None, refl, sym, ap, ◌∙◌}
use Rattle.std.specs.Prelude.{option_map}
use Rattle.std.proofs.lemmas.List.{append_assoc, drop_more}
use Rattle.cdc_base.specs.declared.signal.ResetPin.{ResetPin}
use Rattle.cdc_base.specs.declared.signal.Signal.{Signal}
use Rattle.flat_names.specs.declared.design.Reset.{Reset}
use Rattle.flat_names.specs.Designs.{IsReset}
use Rattle.reset_nets.specs.Nets.{inactive}

-- a reset that is found has its pin's level
pub level_found : (pins : List ResetPin) (b : Bool) (q : Option Reset) (p : Option ResetPin) → IsReset pins q p
    → option_map (λ (r : Reset). not r.is_high) (cond b q None) ≡ option_map inactive (cond b p None)
level_found pins false q p h = refl
level_found pins true None None h = refl
level_found pins true (Some q) (Some r) h = ap (λ x. Some (not x)) h.level
level_found pins true None (Some r) h = absurd h
level_found pins true (Some q) None h = absurd h

-- one signal more
pub levels_step : (level : Signal → Option Bool) (all : List Signal) (k : ℕ) (x : Signal) → k < length all → x ≡ get_or all k x → (old new whole : List (Option Bool)) (l : Option Bool)
    → l ≡ level x → new ≡ old ++ l ∷ [] → old ++ map level (drop k all) ≡ whole → new ++ map level (drop (k + 1) all) ≡ whole
levels_step level all k x within at old new whole l is pushed h =
    ap (λ ls. ls ++ map level (drop (k + 1) all)) (pushed ∙ ap (λ y. old ++ y ∷ []) is)
    ∙ append_assoc old (level x ∷ []) (map level (drop (k + 1) all))
    ∙ sym (ap (λ (xs : List Signal). old ++ map level xs) (drop_more all k x within ∙ ap (λ (y : Signal). y ∷ drop (k + 1) all) (sym at)))
    ∙ h
