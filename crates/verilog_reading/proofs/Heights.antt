-- How deep lists, headers and sources are.
use Rattle.std.proofs.Common.{◌≡◌, ℕ, ◌≤◌, max, List, [], ◌∷◌, ◌++◌, map, Option, Some, None, refl, arith}
use Rattle.verilog_lex.specs.declared.token.Token.{Token}
use Rattle.verilog_lex.specs.declared.marks.MarkKind.{MarkKind}
use Rattle.verilog_reading.specs.ExprTree.{ExprTree, height, target_height}
use Rattle.verilog_reading.specs.Lists.{AreMore, no_more, one_more, AreMany, none_of, one_of}
use Rattle.verilog_reading.specs.Laws.{Within}
use Rattle.verilog_reading.specs.SourceTree.{Bounds, most, in_option, bounds_height, param_height, port_height, joined}
use Rattle.verilog_reading.specs.ItemReading.{IsList, is_list, Setting, Var, Driven, ParamForm, Pdecl, form_from, params_from, Shape, Entry, shape_from, ports_from, entries}

abbrev pub range_height : Option Bounds → ℕ
range_height = in_option bounds_height

abbrev pub init_height : Option ExprTree → ℕ
init_height = in_option height

abbrev pub setting_height : Setting → ℕ
setting_height s = height s.value

abbrev pub var_height : Var → ℕ
var_height x = max (range_height x.array) (init_height x.init)

abbrev pub driven_height : Driven → ℕ
driven_height d = max (target_height d.target) (height d.value)

abbrev pub form_height : ParamForm → ℕ
form_height f = range_height f.range

abbrev pub pdecl_height : Pdecl → ℕ
pdecl_height a = max (in_option form_height a.form) (height a.setting.value)

abbrev pub shape_height : Shape → ℕ
shape_height s = range_height s.range

abbrev pub entry_height : Entry → ℕ
entry_height a = max (in_option shape_height a.shape) (init_height a.init)

-- lists
pub most_map : {A B : Type 0} (h : A → ℕ) (g : B → ℕ) (f : A → B) (k : ℕ) → ((a : A) → h a ≤ k → g (f a) ≤ k) → (xs : List A) → most h xs ≤ k → most g (map f xs) ≤ k
most_map h g f k e [] i = omega arith
most_map h g f k e (x ∷ xs) i = let a = e x (omega (arith, i)) in let b = most_map h g f k e xs (omega (arith, i)) in omega (arith, a, b)

pub map_most : {A B : Type 0} (h : A → ℕ) (g : B → ℕ) (f : A → B) (k : ℕ) → ((a : A) → g (f a) ≤ k → h a ≤ k) → (xs : List A) → most g (map f xs) ≤ k → most h xs ≤ k
map_most h g f k e [] i = omega arith
map_most h g f k e (x ∷ xs) i = let a = e x (omega (arith, i)) in let b = map_most h g f k e xs (omega (arith, i)) in omega (arith, a, b)

most_append : {A : Type 0} (h : A → ℕ) (k : ℕ) (xs ys : List A) → most h xs ≤ k → most h ys ≤ k → most h (xs ++ ys) ≤ k
most_append h k [] ys i j = j
most_append h k (x ∷ xs) ys i j = let a = most_append h k xs ys (omega (arith, i)) j in omega (arith, a, i)

append_most : {A : Type 0} (h : A → ℕ) (k : ℕ) (xs ys : List A) → most h (xs ++ ys) ≤ k → (most h xs ≤ k) × (most h ys ≤ k)
append_most h k [] ys i = (omega arith, i)
append_most h k (x ∷ xs) ys i = let a = append_most h k xs ys (omega (arith, i)) in let b = a.0 in (omega (arith, b, i), a.1)

pub most_joined : {A : Type 0} (h : A → ℕ) (k : ℕ) (xs : List (List A)) → most (most h) xs ≤ k → most h (joined xs) ≤ k
most_joined h k [] i = omega arith
most_joined h k (x ∷ xs) i = most_append h k x (joined xs) (omega (arith, i)) (most_joined h k xs (omega (arith, i)))

pub joined_most : {A : Type 0} (h : A → ℕ) (k : ℕ) (xs : List (List A)) → most h (joined xs) ≤ k → most (most h) xs ≤ k
joined_most h k [] i = omega arith
joined_most h k (x ∷ xs) i = let a = append_most h k x (joined xs) i in let b = a.0 in let c = joined_most h k xs a.1 in omega (arith, b, c)

pub entries_most : (es : List (Option ExprTree)) → most init_height (entries es) ≡ most init_height es
entries_most [] = refl
entries_most (None ∷ []) = refl
entries_most (None ∷ (e ∷ es)) = refl
entries_most (Some e ∷ es) = refl

-- headers
form_low : (k : ℕ) (before : ParamForm) (f : Option ParamForm) → form_height before ≤ k → in_option form_height f ≤ k → form_height (form_from before f) ≤ k
form_low k before None i j = i
form_low k before (Some f) i j = j

pub params_low : (k : ℕ) (before : ParamForm) (bs : List Pdecl) → form_height before ≤ k → most pdecl_height bs ≤ k → most param_height (params_from before bs) ≤ k
params_low k before [] i j = omega arith
params_low k before (a ∷ bs) i j =
    let r = form_low k before a.form i (omega (arith, j)) in
    let z = params_low k (form_from before a.form) bs r (omega (arith, j)) in omega (arith, j, r, z)

low_form : (k : ℕ) (before : ParamForm) (f : Option ParamForm) → form_height (form_from before f) ≤ k → in_option form_height f ≤ k
low_form k before None i = omega arith
low_form k before (Some f) i = i

pub low_params : (k : ℕ) (before : ParamForm) (bs : List Pdecl) → most param_height (params_from before bs) ≤ k → most pdecl_height bs ≤ k
low_params k before [] i = omega arith
low_params k before (a ∷ bs) i =
    let r = low_form k before a.form (omega (arith, i)) in
    let z = low_params k (form_from before a.form) bs (omega (arith, i)) in omega (arith, i, r, z)

shape_low : (k : ℕ) (before : Shape) (s : Option Shape) → shape_height before ≤ k → in_option shape_height s ≤ k → shape_height (shape_from before s) ≤ k
shape_low k before None i j = i
shape_low k before (Some s) i j = j

low_shape : (k : ℕ) (before : Shape) (s : Option Shape) → shape_height (shape_from before s) ≤ k → in_option shape_height s ≤ k
low_shape k before None i = omega arith
low_shape k before (Some s) i = i

pub ports_low : (k : ℕ) (before : Shape) (bs : List Entry) → shape_height before ≤ k → most entry_height bs ≤ k → most port_height (ports_from before bs) ≤ k
ports_low k before [] i j = omega arith
ports_low k before (a ∷ bs) i j =
    let r = shape_low k before a.shape i (omega (arith, j)) in
    let z = ports_low k (shape_from before a.shape) bs r (omega (arith, j)) in omega (arith, j, r, z)

pub low_ports : (k : ℕ) (before : Shape) (bs : List Entry) → most port_height (ports_from before bs) ≤ k → most entry_height bs ≤ k
low_ports k before [] i = omega arith
low_ports k before (a ∷ bs) i =
    let r = low_shape k before a.shape (omega (arith, i)) in
    let z = low_ports k (shape_from before a.shape) bs (omega (arith, i)) in omega (arith, i, r, z)

-- lists whose entries are low
pub within_more : {A B : Type 0} (tok : B → Token) (R : List Token → A → Type 0) (h : A → ℕ) (k : ℕ) {v : List Token} {bs : List A} → AreMore tok (Within R h k) v bs → Within (AreMore tok R) (most h) k v bs
within_more tok R h k no_more = (no_more, omega arith)
within_more tok R h k (one_more b {u} {v} {a} {bs} x y) = let z = within_more tok R h k y in (one_more b x.0 z.0, omega (arith, x.1, z.1))

pub more_within : {A B : Type 0} (tok : B → Token) (R : List Token → A → Type 0) (h : A → ℕ) (k : ℕ) {v : List Token} {bs : List A} → AreMore tok R v bs → most h bs ≤ k → AreMore tok (Within R h k) v bs
more_within tok R h k no_more i = no_more
more_within tok R h k (one_more b {u} {v} {a} {bs} x y) i = one_more b (x, omega (arith, i)) (more_within tok R h k y (omega (arith, i)))

pub within_list : {A B : Type 0} (tok : B → Token) (m : MarkKind) (F R : List Token → A → Type 0) (h : A → ℕ) (k : ℕ) (u : List Token) (bs : List A)
    → IsList tok m (Within F h k) (Within R h k) u bs → Within (IsList tok m F R) (most h) k u bs
within_list {A} tok m F R h k u bs p = go p
  where
    go : {u : List Token} {bs : List A} → IsList tok m (Within F h k) (Within R h k) u bs → Within (IsList tok m F R) (most h) k u bs
    go (is_list q x y) = let z = within_more tok R h k y in (is_list q x.0 z.0, omega (arith, x.1, z.1))

pub within_many : {A : Type 0} (R : List Token → A → Type 0) (h : A → ℕ) (k : ℕ) {v : List Token} {bs : List A} → AreMany (Within R h k) v bs → Within (AreMany R) (most h) k v bs
within_many R h k none_of = (none_of, omega arith)
within_many R h k (one_of {u} {v} {a} {bs} x y) = let z = within_many R h k y in (one_of x.0 z.0, omega (arith, x.1, z.1))

pub many_within : {A : Type 0} (R : List Token → A → Type 0) (h : A → ℕ) (k : ℕ) {v : List Token} {bs : List A} → AreMany R v bs → most h bs ≤ k → AreMany (Within R h k) v bs
many_within R h k none_of i = none_of
many_within R h k (one_of {u} {v} {a} {bs} x y) i = one_of (x, omega (arith, i)) (many_within R h k y (omega (arith, i)))
