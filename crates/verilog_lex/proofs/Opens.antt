-- Open bits beyond the lowest ones don't reach down.
use Rattle.std.proofs.Common.{◌≡◌, ℕ, Bool, true, false, ◌≤◌, ◌+◌, ◌-◌, ◌*◌, ◌/◌, ◌^◌, ◌%◌, List, [], ◌∷◌, arith, ◌==◌, ◌<◌, length, get_or, drop, ap, ◌∙◌, sym}
use Rattle.std.specs.Prelude.{if◌then◌else◌}
use Rattle.std.proofs.lemmas.List.{drop_more}
use Rattle.std.proofs.Math.Nat.{add-mul-mod_self_left, mod-add-div', mod-add-mod}
use Rattle.std.proofs.Math.Pow.{mod-mod-pow}
use Rattle.verilog_lex.specs.Numbers.{open_in, opened}

same_if : (m : ℕ) (b : Bool) (x y u v : ℕ) → x % m ≡ u % m → y % m ≡ v % m → (if b then x else y) % m ≡ (if b then u else v) % m
same_if m true x y u v h k = h
same_if m false x y u v h k = k

step : (m q base n f : ℕ) → (n + m * q) * base + f ≡ (n * base + f) + m * (q * base)
step m q base n f = grind arith

higher : (m q base n : ℕ) (ds : List ℕ) → open_in base (n + m * q) ds % m ≡ open_in base n ds % m
higher m q base n [] = add-mul-mod_self_left n m q
higher m q base n (d ∷ ds) =
    same_if m (d == 95) (open_in base (n + m * q) ds) (open_in base ((n + m * q) * base + opened base d) ds) (open_in base n ds) (open_in base (n * base + opened base d) ds)
    (higher m q base n ds)
    (ap (λ k. open_in base k ds % m) (step m q base n (opened base d)) ∙ higher m (q * base) base (n * base + opened base d) ds)

pub lowest : (m base n : ℕ) (ds : List ℕ) → open_in base (n % m) ds % m ≡ open_in base n ds % m
lowest m base n ds =
    let e : n % m + m * (n / m) ≡ n = grind (arith, mod-add-div' n m) in
    sym (higher m (n / m) base (n % m) ds) ∙ ap (λ k. open_in base k ds % m) e

-- a narrower word of a wider one
pub narrower : (x w : ℕ) → w ≤ 64 → x % 2 ^ 64 % 2 ^ w ≡ x % 2 ^ w
narrower x w h =
    let e : 64 - w + w ≡ 64 = omega arith in
    ap (λ k. x % 2 ^ k % 2 ^ w) (sym e) ∙ mod-mod-pow x (64 - w) w

-- one digit on
pub opens_next : (m base n i b f x : ℕ) (ds : List ℕ) → i < length ds → (get_or ds i 0 ≡ 95 → ⊥) → b ≡ base → f ≡ opened base (get_or ds i 0)
    → x ≡ (n * b % m + f) % m → open_in base n (drop i ds) % m ≡ open_in base x (drop (i + 1) ds) % m
opens_next m base n i b f x ds h k eb ef e =
    let d = get_or ds i 0 in
    let rest = drop (i + 1) ds in
    let not95 : (d == 95) ≡ false = grind (arith, k) in
    let ex : x ≡ (n * base + opened base d) % m =
    e ∙ ap (λ j. (n * j % m + f) % m) eb ∙ ap (λ j. (n * base % m + j) % m) ef ∙ mod-add-mod (n * base) m (opened base d) in
    ap (λ t. open_in base n t % m) (drop_more ds i 0 h)
    ∙ ap (λ t. (if t then open_in base n rest else open_in base (n * base + opened base d) rest) % m) not95
    ∙ sym (lowest m base (n * base + opened base d) rest) ∙ ap (λ j. open_in base j rest % m) (sym ex)

-- `_` opens nothing
pub opens_skip : (m base n i x : ℕ) (ds : List ℕ) → i < length ds → get_or ds i 0 ≡ 95 → x ≡ n
    → open_in base n (drop i ds) % m ≡ open_in base x (drop (i + 1) ds) % m
opens_skip m base n i x ds h k e =
    let d = get_or ds i 0 in
    let rest = drop (i + 1) ds in
    let is95 : (d == 95) ≡ true = grind (arith, k) in
    ap (λ t. open_in base n t % m) (drop_more ds i 0 h)
    ∙ ap (λ t. (if t then open_in base n rest else open_in base (n * base + opened base d) rest) % m) is95 ∙ ap (λ j. open_in base j rest % m) (sym e)
