-- The delays of names, entry by entry.
use Rattle.std.proofs.Common.{◌≡◌, Bool, true, false, cond, List, [], ◌∷◌, Option, Some, None, Bor, refl, sym, ap, ◌∙◌, true≢false, eqb-true}
use Rattle.std.specs.Str.{bytes_eq}
use Rattle.std.specs.List.{IsDistinct, AllByRecursion}
use Rattle.std.specs.Map.{keys_of, lookup}
use Rattle.std.proofs.lemmas.Slice.Eq.{bytes_eq-Decides}
use Rattle.indexmap.specs.IndexMap.{get_by}
use Rattle.verilog_ast.specs.declared.Delay.{Delay}
use Rattle.verilog_ast.specs.declared.Delay.TheVariants as delay
use Rattle.flat_unfolding.specs.Outcome.{Text}
use Rattle.flat_unfolding.specs.Delays.{Delays, none_yet, always, several, same_delay, joined, on_both}
use Rattle.process_delays.specs.declared.paths.Ways.{Ways}
use Rattle.process_delays.specs.declared.paths.Paths.{Paths}
use Rattle.process_delays.specs.Paths.{ways_of, kept, under, grown}

pub same-everywhere : {f g : Text → Delays} → ((x : Text) → f x ≡ g x) → f ≡ g
same-everywhere h = λ i x. h x i

-- ---- joins

same-delay : (d e : Option Delay) → same_delay d e ≡ true → d ≡ e
same-delay None None h = refl
same-delay None (Some e) h = absurd (true≢false (sym h))
same-delay (Some (delay.Number m)) None h = absurd (true≢false (sym h))
same-delay (Some (delay.Name x)) None h = absurd (true≢false (sym h))
same-delay (Some (delay.Number m)) (Some (delay.Number n)) h = ap (λ k. Some (delay.Number k)) (eqb-true m n h)
same-delay (Some (delay.Number m)) (Some (delay.Name y)) h = absurd (true≢false (sym h))
same-delay (Some (delay.Name x)) (Some (delay.Number n)) h = absurd (true≢false (sym h))
same-delay (Some (delay.Name x)) (Some (delay.Name y)) h = ap (λ k. Some (delay.Name k)) ((bytes_eq-Decides x y).0 h)

pub joined-none : (w : Delays) → joined w none_yet ≡ w
joined-none none_yet = refl
joined-none (always d) = refl
joined-none several = refl

joined-three : (d e g : Option Delay) → joined (joined (always d) (always e)) (always g) ≡ joined (always d) (joined (always e) (always g))
joined-three d e g = go (same_delay d e) (same_delay e g) refl refl
  where
    go : (a b : Bool) → same_delay d e ≡ a → same_delay e g ≡ b → joined (cond a (always d) several) (always g) ≡ joined (always d) (cond b (always e) several)
    go true true p q = ap (λ t. cond t (always d) several) (ap (λ k. same_delay k g) (same-delay d e p) ∙ q ∙ sym p)
    go true false p q = ap (λ t. cond t (always d) several) (ap (λ k. same_delay k g) (same-delay d e p) ∙ q)
    go false true p q = sym (ap (λ t. cond t (always d) several) p)
    go false false p q = refl

joined-several : (b : Bool) (d : Option Delay) → joined (cond b (always d) several) several ≡ several
joined-several true d = refl
joined-several false d = refl

several-joined : (b : Bool) (d : Option Delay) → joined several (cond b (always d) several) ≡ several
several-joined true d = refl
several-joined false d = refl

joined-assoc : (u v w : Delays) → joined (joined u v) w ≡ joined u (joined v w)
joined-assoc none_yet v w = refl
joined-assoc (always d) none_yet w = refl
joined-assoc (always d) (always e) none_yet = joined-none (joined (always d) (always e))
joined-assoc (always d) (always e) (always g) = joined-three d e g
joined-assoc (always d) (always e) several = joined-several (same_delay d e) d
joined-assoc (always d) several none_yet = refl
joined-assoc (always d) several (always g) = refl
joined-assoc (always d) several several = refl
joined-assoc several none_yet w = refl
joined-assoc several (always e) none_yet = refl
joined-assoc several (always e) (always g) = sym (several-joined (same_delay e g) e)
joined-assoc several (always e) several = refl
joined-assoc several several none_yet = refl
joined-assoc several several (always g) = refl
joined-assoc several several several = refl

pub on_both-none : (f : Text → Delays) → on_both f (λ x. none_yet) ≡ f
on_both-none f = same-everywhere (λ x. joined-none (f x))

pub on_both-assoc : (f g h : Text → Delays) → on_both (on_both f g) h ≡ on_both f (on_both g h)
on_both-assoc f g h = same-everywhere (λ x. joined-assoc (f x) (g x) (h x))

-- ---- names

one-name : (x y : Text) → bytes_eq x y ≡ true → x ≡ y
one-name x y e = (bytes_eq-Decides x y).0 e

same-test : (x y : Text) → bytes_eq x y ≡ bytes_eq y x
same-test x y = go (bytes_eq x y) (bytes_eq y x) refl refl
  where
    go : (a b : Bool) → bytes_eq x y ≡ a → bytes_eq y x ≡ b → a ≡ b
    go true true p q = refl
    go true false p q = absurd (true≢false (sym ((bytes_eq-Decides y x).1 (sym (one-name x y p))) ∙ q))
    go false true p q = absurd (true≢false (sym ((bytes_eq-Decides x y).1 (sym (one-name y x q))) ∙ p))
    go false false p q = refl

pub grown-kept : (old new : Paths) (x : Text) (all : Ways) (w : Delays) → ways_of all ≡ joined (under old x) w
    → ((y : Text) → get_by (λ (k : Bor Text). bytes_eq y k.now) new.by_name ≡ cond (bytes_eq x y) (Some all) (get_by (λ (k : Bor Text). bytes_eq y k.now) old.by_name)) → under new ≡ grown x w (under old)
grown-kept old new x all w e h = same-everywhere (λ y. ap kept (h y) ∙ go y (bytes_eq x y) refl)
  where
    go : (y : Text) (b : Bool) → bytes_eq x y ≡ b → kept (cond b (Some all) (get_by (λ (k : Bor Text). bytes_eq y k.now) old.by_name)) ≡ cond b (joined (under old y) w) (under old y)
    go y true t = e ∙ ap (λ z. joined (under old z) w) (one-name x y t)
    go y false t = refl

-- ---- entries

abbrev pub listed : List (Bor Text × Ways) → Text → Delays
listed [] x = none_yet
listed (e ∷ es) x = joined (cond (bytes_eq e.0.now x) (ways_of e.1) none_yet) (listed es x)

other-key : (k : Bor Text) (x : Text) (es : List (Bor Text × Ways)) → k.now ≡ x → AllByRecursion (λ (y : Bor Text). bytes_eq k.now y.now ≡ false) (keys_of es) → listed es x ≡ none_yet
other-key k x [] same h = refl
other-key k x (e ∷ es) same h =
    let apart : bytes_eq e.0.now x ≡ false = same-test e.0.now x ∙ ap (λ z. bytes_eq z e.0.now) (sym same) ∙ h.0 in
    ap (λ b. joined (cond b (ways_of e.1) none_yet) (listed es x)) apart ∙ other-key k x es same h.1

listed-at : (es : List (Bor Text × Ways)) → IsDistinct (λ (a b : Bor Text). bytes_eq a.now b.now) (keys_of es) → (x : Text) → listed es x ≡ kept (lookup (λ (k : Bor Text). bytes_eq x k.now) es)
unfolding IsDistinct
listed-at [] d x = refl
listed-at (e ∷ es) d x =
    go (bytes_eq e.0.now x) refl (listed-at es d.1 x)
    ∙ ap (λ b. kept (cond b (Some e.1) (lookup (λ (k : Bor Text). bytes_eq x k.now) es))) (same-test e.0.now x)
  where
    go : (b : Bool) → bytes_eq e.0.now x ≡ b → listed es x ≡ kept (lookup (λ (k : Bor Text). bytes_eq x k.now) es)
        → joined (cond b (ways_of e.1) none_yet) (listed es x) ≡ kept (cond b (Some e.1) (lookup (λ (k : Bor Text). bytes_eq x k.now) es))
    go true t rest = ap (joined (ways_of e.1)) (other-key e.0 x es (one-name e.0.now x t) d.0) ∙ joined-none (ways_of e.1)
    go false t rest = rest

pub listed-is : (es : List (Bor Text × Ways)) → IsDistinct (λ (a b : Bor Text). bytes_eq a.now b.now) (keys_of es) → listed es ≡ (λ x. kept (lookup (λ (k : Bor Text). bytes_eq x k.now) es))
listed-is es d = same-everywhere (listed-at es d)

pub added-entry : (old new : Text → Delays) (e : Bor Text × Ways) (es : List (Bor Text × Ways)) → new ≡ grown e.0.now (ways_of e.1) old → on_both new (listed es) ≡ on_both old (listed (e ∷ es))
added-entry old new e es h = ap (λ f. on_both f (listed es)) h ∙ same-everywhere (λ x. go x (bytes_eq e.0.now x))
  where
    go : (x : Text) (b : Bool) → joined (cond b (joined (old x) (ways_of e.1)) (old x)) (listed es x) ≡ joined (old x) (joined (cond b (ways_of e.1) none_yet) (listed es x))
    go x true = joined-assoc (old x) (ways_of e.1) (listed es x)
    go x false = refl
