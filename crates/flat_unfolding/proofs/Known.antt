-- What is known of the names of a module and of the signals that are declared so far.
use Rattle.std.proofs.Common.{◌≡◌, ℕ, ◌+◌, ◌^◌, ◌<◌, ◌≤◌, Bool, true, false, cond, List, [], ◌∷◌, Option, Some, None, refl, subst, rules, bytes_eq}
use Rattle.std.specs.Prelude.{slice_get, All, option_and_then}
use Rattle.std.specs.Option.{option_map_or}
use Rattle.std.proofs.lemmas.List.Elements.{All-head, All-tail}
use Rattle.cdc_base.specs.Words.{found_in}
use Rattle.flat_unfolding.specs.Outcome.{Text}
use Rattle.flat_unfolding.specs.Names.{width_of, Param, Meaning, a_param, a_signal, a_memory, no_value, Names, as_value, meaning_in, Entry, width_at}
use Rattle.flat_unfolding.proofs.Steps.{some_is}

-- what stays of a signal that is declared
abbrev pub reg_at : List Entry → ℕ → Bool
reg_at es s = option_map_or (λ (e : Entry). e.is_reg) (slice_get es s) false

abbrev pub open_at : List Entry → ℕ → Bool
open_at es s = option_map_or (λ (e : Entry). e.is_open) (slice_get es s) false

abbrev pub top_at : List Entry → ℕ → Bool
top_at es s = option_map_or (λ (e : Entry). e.is_top_input) (slice_get es s) false

-- a value in 1 to 64 bits
abbrev pub IsParamSized : Param → Type 0
IsParamSized p = (1 ≤ p.width) × (p.width ≤ 64) × (p.value < 2 ^ p.width) × (width_of p.range ≤ 64)

-- a memory's word is a register that isn't declared again
abbrev pub IsWordAt : List Entry → ℕ → Type 0
IsWordAt es s = (1 ≤ width_at es s) × (reg_at es s ≡ true) × (open_at es s ≡ false)

abbrev pub Stands : List Entry → Meaning → Type 0
Stands es (a_param p) = IsParamSized p
Stands es (a_signal s) = 1 ≤ width_at es s
Stands es (a_memory m) = (1 ≤ m.words) × ((n : ℕ) → n < m.words → IsWordAt es (m.first + n))
Stands es no_value = ⊥

abbrev pub StandsIf : List Entry → Option Meaning → Type 0
StandsIf es None = Unit {0}
StandsIf es (Some m) = Stands es m

-- the name of an instance, and the printed name of a memory's word, stand for no value
abbrev pub IsNamed : List Entry → Meaning → Type 0
IsNamed es (a_param p) = Stands es (a_param p)
IsNamed es (a_signal s) = Stands es (a_signal s)
IsNamed es (a_memory m) = Stands es (a_memory m)
IsNamed es no_value = Unit {0}

abbrev pub AreNamed : List Entry → Names → Type 0
AreNamed es names = All (λ (p : Text × Meaning). IsNamed es p.1) names

pub found_is : {A : Type 0} (P : A → Type 0) (names : List (Text × A)) (x : Text) (m : A) → All (λ (p : Text × A). P p.1) names → found_in names x ≡ Some m → P m
found_is P [] x m h e = absurd (search (rules, e))
found_is {A} P (p ∷ names) x m h e = go (bytes_eq p.0 x) e (found_is P names x m (All-tail (λ (p : Text × A). P p.1) p names h))
  where
    go : (b : Bool) → cond b (Some p.1) (found_in names x) ≡ Some m → (found_in names x ≡ Some m → P m) → P m
    go true e f = subst P (some_is p.1 m e) (All-head (λ (p : Text × A). P p.1) p names h)
    go false e f = f e

pub stands : (es : List Entry) (names : Names) (x : Text) → AreNamed es names → StandsIf es (meaning_in names x)
stands es names x h = go (found_in names x) refl
  where
    go : (o : Option Meaning) → found_in names x ≡ o → StandsIf es (option_and_then as_value o)
    go None e = tt
    go (Some (a_param p)) e = found_is (IsNamed es) names x (a_param p) h e
    go (Some (a_signal s)) e = found_is (IsNamed es) names x (a_signal s) h e
    go (Some (a_memory m)) e = found_is (IsNamed es) names x (a_memory m) h e
    go (Some no_value) e = tt
