-- Tests and look-ups over a list and over what a function makes of it.
use Rattle.std.proofs.Common.{◌≡◌, ℕ, ◌+◌, ◌≤◌, Bool, not, ◌||◌, cond, eqb, ltb, List, [], ◌∷◌, ◌++◌, map, length, Option, Some, None, refl, ap, sym, ◌∙◌, arith, length-append, Bor}
use Rattle.std.specs.List.{prefix_len, position, list_any}
use Rattle.std.specs.Str.{bytes_eq}
use Rattle.std.proofs.lemmas.List.{length-map}
use Rattle.std.proofs.lemmas.List.Folds.{prefix_len-append}
use Rattle.std.proofs.lemmas.List.Sums.{prefix_len-le-length}
use Rattle.std.proofs.lemmas.Bool.Decides.{nat_tests}
use Rattle.clock_constraints.specs.declared.ClockPin.{ClockPin}
use Rattle.clock_constraints.specs.Refusals.{Text}
use Rattle.clock_constraints.specs.Names.{clock_place}

pub list_any-map : {X Y : Type 0} (p : Y → Bool) (f : X → Y) (xs : List X) → list_any p (map f xs) ≡ list_any (λ x. p (f x)) xs
list_any-map p f [] = refl
list_any-map p f (x ∷ xs) = ap (λ b. p (f x) || b) (list_any-map p f xs)

pub prefix_len-map : {X Y : Type 0} (p : Y → Bool) (f : X → Y) (xs : List X) → prefix_len p (map f xs) ≡ prefix_len (λ x. p (f x)) xs
prefix_len-map p f [] = refl
prefix_len-map p f (x ∷ xs) = ap (λ n. cond (p (f x)) (1 + n) 0) (prefix_len-map p f xs)

-- an index that a look-up gave, where it lies in front of n
abbrev pub in_front : ℕ → Option ℕ → Option ℕ
in_front n None = None
in_front n (Some i) = cond (ltb i n) (Some i) None

-- the number that a look-up among n + m names gives, where k is the number among the first n
front_number : (k n r m i : ℕ) → k ≤ n → r ≤ m → i ≡ cond (eqb k n) (n + r) k
    → in_front n (cond (ltb i (n + m)) (Some i) None) ≡ cond (ltb k n) (Some k) None
front_number k n r m i below within e = grind (arith, nat_tests)

-- among names that begin with those of the clocks, the first look-up in front of their end is the clock's place
pub clock_place_among : (name : Text) (names : List (Bor Text)) (clocks : List ClockPin) (rest : List Text)
    → map (λ (n : Bor Text). n.now) names ≡ map (λ (c : ClockPin). c.name) clocks ++ rest
    → in_front (length clocks) (position (λ (n : Bor Text). bytes_eq name n.now) names) ≡ clock_place clocks name
clock_place_among name names clocks rest e =
    let other : Text → Bool = λ t. not (bytes_eq name t) in
    let now : Bor Text → Text = λ n. n.now in
    let called : ClockPin → Text = λ c. c.name in
    let k = prefix_len (λ (c : ClockPin). other (called c)) clocks in
    let r = prefix_len other rest in
    let i = prefix_len (λ (n : Bor Text). other (now n)) names in
    let same_k : prefix_len other (map called clocks) ≡ k = prefix_len-map other called clocks in
    let same_n : length (map called clocks) ≡ length clocks = length-map clocks called in
    let whole : i ≡ cond (eqb k (length clocks)) (length clocks + r) k =
    sym (prefix_len-map other now names) ∙ ap (prefix_len other) e ∙ prefix_len-append other (map called clocks) rest
    ∙ rw (same_k, same_n) refl in
    let long : length names ≡ length clocks + length rest =
    sym (length-map names now) ∙ ap length e ∙ length-append (map called clocks) rest ∙ ap (λ n. n + length rest) same_n in
    rw long (front_number k (length clocks) r (length rest) i (prefix_len-le-length (λ (c : ClockPin). other (called c)) clocks) (prefix_len-le-length other rest) whole)
