-- A reader's outcome depends on no token behind the first of its rest: the law of each combinator.
use Rattle.std.proofs.Common.{if◌then◌else◌, ◌≡◌, ℕ, zero, suc, ◌+◌, ◌≤◌, ◌<◌, Bool, true, false, List, [], ◌∷◌, ◌++◌, length, Option, Some, None, refl, sym, ap, subst, ◌∙◌, append_assoc, length-append, arith, rules}
use Rattle.std.proofs.lemmas.List.{append_cancel_right}
use Rattle.verilog_lex.specs.declared.token.Token.{Token}
use Rattle.verilog_lex.specs.declared.marks.MarkKind.{MarkKind}
use Rattle.verilog_reading.specs.Lexemes.{mark_in}
use Rattle.verilog_reading.specs.Outcome.{Outcome, done, stop, then_read, next, refuse, expect, deep, enter, peek, descend, on_option}
use Rattle.verilog_reading.specs.Reader.{closed}
use Rattle.verilog_reading.specs.Lists.{more, more_in, many, many_in}
use Rattle.verilog_reading.specs.Laws.{rest_of, with_rest, SameHead, LocalAt, Local}

pub local_done : {A : Type 0} (a : A) → Local (done a)
local_done a ts = ([], refl, λ more s. refl)

pub local_stop : {A : Type 0} (d : Bool) → Local {A = A} (λ ts. stop d ts)
local_stop d ts = ([], refl, λ more s. refl)

same_head : (b rest ts more : List Token) → ts ≡ b ++ rest → SameHead rest more → SameHead ts (b ++ more)
same_head [] rest ts more e s = subst (λ x. SameHead x more) (sym e) s
same_head (x ∷ xs) rest ts more e s = subst (λ y. SameHead y (x ∷ (xs ++ more))) (sym e) (xs ++ more, refl)

then_at : {A B : Type 0} (r : List Token → Outcome A) (f : A → List Token → Outcome B) → ((a : A) → Local (f a)) → (ts : List Token) (o : Outcome A) → LocalAt r ts o
    → LocalAt (λ xs. then_read (r xs) f) ts (then_read o f)
then_at r f g ts (stop d rest) l = (l.0, l.1, λ more s. ap (λ o. then_read o f) (l.2 more s))
then_at r f g ts (done a rest) l =
    let m = g a rest in (
      l.0 ++ m.0,
      l.1 ∙ ap (λ x. l.0 ++ x) m.1 ∙ sym (append_assoc l.0 m.0 (rest_of (f a rest))),
      λ more s. ap (λ x. then_read (r x) f) (append_assoc l.0 m.0 more)
          ∙ ap (λ o. then_read o f) (l.2 (m.0 ++ more) (same_head m.0 (rest_of (f a rest)) rest more m.1 s)) ∙ m.2 more s,
    )

pub local_then : {A B : Type 0} (r : List Token → Outcome A) (f : A → List Token → Outcome B) → Local r → ((a : A) → Local (f a)) → Local (λ xs. then_read (r xs) f)
local_then r f l g ts = then_at r f g ts (r ts) (l ts)

-- a reader that tests the next token, and else does as another
empty_at : {A : Type 0} (r other : List Token → Outcome A) → r [] ≡ other [] → (o : Outcome A) → o ≡ other [] → LocalAt other [] o → LocalAt r [] o
empty_at r other e o q ([], l, g) = (
  [],
  l,
  λ more s. let z : more ≡ [] = subst (λ x. SameHead x more) (sym l) s in
      subst (λ x. r x ≡ with_rest x o) (sym z) (e ∙ g [] (subst (λ x. SameHead x []) l refl)),
)
empty_at r other e o q (x ∷ xs, l, g) = absurd (search (rules, l))

else_at : {A : Type 0} (r other : List Token → Outcome A) (t : Token) → ((xs : List Token) → r (t ∷ xs) ≡ other (t ∷ xs)) → (ts : List Token) (o : Outcome A) → LocalAt other (t ∷ ts) o → LocalAt r (t ∷ ts) o
else_at r other t e ts o ([], l, g) = (
  [],
  l,
  λ more s. let z = subst (λ x. SameHead x more) (sym l) s in
      ap r z.1 ∙ e z.0 ∙ ap other (sym z.1) ∙ g more s,
)
else_at r other t e ts o (x ∷ xs, l, g) = (
  x ∷ xs,
  l,
  λ more s. let h : x ≡ t = search (rules, l) in
      ap (λ y. r (y ∷ (xs ++ more))) h ∙ e (xs ++ more) ∙ ap (λ y. other (y ∷ (xs ++ more))) (sym h) ∙ g more s,
)

pub local_next : {A B : Type 0} (test : Token → Option B) (f : B → List Token → Outcome A) (other : List Token → Outcome A) → ((b : B) → Local (f b)) → Local other → Local (next test f other)
local_next test f other g l [] = empty_at (next test f other) other refl (other []) refl (l [])
local_next {A} {B} test f other g l (t ∷ ts) = go (test t) refl
  where
    go : (o : Option B) → test t ≡ o → LocalAt (next test f other) (t ∷ ts) (on_option o (λ b. f b ts) (other (t ∷ ts)))
    go (Some b) e = let m = g b ts in (t ∷ m.0, ap (λ x. t ∷ x) m.1, λ more s. ap (λ o. on_option o (λ b. f b (m.0 ++ more)) (other (t ∷ (m.0 ++ more)))) e ∙ m.2 more s)
    go None e = else_at (next test f other) other t (λ xs. ap (λ o. on_option o (λ b. f b xs) (other (t ∷ xs))) e) ts (other (t ∷ ts)) (l (t ∷ ts))

pub local_expect : {A B : Type 0} (test : Token → Option B) (f : B → List Token → Outcome A) → ((b : B) → Local (f b)) → Local (expect test f)
local_expect test f g = local_next test f refuse g (local_stop false)

pub local_closed : {A : Type 0} (m : MarkKind) (a : A) → Local (closed m a)
local_closed m a = local_expect (mark_in m) (λ _. done a) (λ _. local_done a)

pub local_deep : {A B : Type 0} (test : Token → Option B) (other : List Token → Outcome A) → Local other → Local (deep test other)
local_deep test other l [] = empty_at (deep test other) other refl (other []) refl (l [])
local_deep {A} {B} test other l (t ∷ ts) = go (test t) refl
  where
    go : (o : Option B) → test t ≡ o → LocalAt (deep test other) (t ∷ ts) (on_option o (λ b. stop true (t ∷ ts)) (other (t ∷ ts)))
    go (Some b) e = ([], refl, λ more s. ap (deep test other) s.1 ∙ ap (λ o. on_option o (λ b. stop true (t ∷ s.0)) (other (t ∷ s.0))) e ∙ ap (stop true) (sym s.1))
    go None e = else_at (deep test other) other t (λ xs. ap (λ o. on_option o (λ b. stop true (t ∷ xs)) (other (t ∷ xs))) e) ts (other (t ∷ ts)) (l (t ∷ ts))

pub local_enter : {A B D : Type 0} (down : Option D) (test : Token → Option B) (f : D → B → List Token → Outcome A) (other : List Token → Outcome A)
    → ((r : D) → down ≡ Some r → (b : B) → Local (f r b)) → Local other → Local (enter down test f other)
local_enter None test f other g l = local_deep test other l
local_enter (Some r) test f other g l = local_next test (f r) other (g r refl) l

-- what is left is no longer
abbrev pub Shrinks : {A : Type 0} → (List Token → Outcome A) → Type 0
Shrinks r = (ts : List Token) → length (rest_of (r ts)) ≤ length ts

pub shrinks : {A : Type 0} (r : List Token → Outcome A) → Local r → Shrinks r
shrinks r l ts = let e : length ts ≡ length (l ts).0 + length (rest_of (r ts)) = ap length (l ts).1 ∙ length-append (l ts).0 (rest_of (r ts)) in omega (arith, e)

-- where a value was read, what is left is no longer
pub left_over : {A : Type 0} (r : List Token → Outcome A) → Local r → (ts : List Token) (a : A) (rest : List Token) → r ts ≡ done a rest → length rest ≤ length ts
left_over r l ts a rest e = subst (λ o. length (rest_of o) ≤ length ts) e (shrinks r l ts)

pub next_same : {A B : Type 0} (test : Token → Option B) (f f2 : B → List Token → Outcome A) (other other2 : List Token → Outcome A) (ts : List Token)
    → ((b : B) (xs : List Token) → length xs < length ts → f b xs ≡ f2 b xs) → other ts ≡ other2 ts → next test f other ts ≡ next test f2 other2 ts
next_same test f f2 other other2 [] h e = e
next_same {A} {B} test f f2 other other2 (t ∷ ts) h e = go (test t)
  where
    go : (o : Option B) → on_option o (λ b. f b ts) (other (t ∷ ts)) ≡ on_option o (λ b. f2 b ts) (other2 (t ∷ ts))
    go (Some b) = h b ts (omega arith)
    go None = e

pub then_same : {A B : Type 0} (o : Outcome A) (f f2 : A → List Token → Outcome B) → ((a : A) (rest : List Token) → o ≡ done a rest → f a rest ≡ f2 a rest) → then_read o f ≡ then_read o f2
then_same (done a rest) f f2 h = h a rest refl
then_same (stop d rest) f f2 h = refl

abbrev pub Eats : {A : Type 0} → (List Token → Outcome A) → Type 0
Eats {A} item = (ts : List Token) (a : A) (rest : List Token) → item ts ≡ done a rest → length rest < length ts

-- a reader whose turns are counted, and for which more turns than tokens change nothing
counted : {A : Type 0} (r : ℕ → List Token → Outcome A) → ((n : ℕ) → Local (r n)) → ((n m : ℕ) (ts : List Token) → length ts < n → length ts < m → r n ts ≡ r m ts) → Local (λ ts. r (suc (length ts)) ts)
counted r l same ts = let z = l (suc (length ts)) ts in (
  z.0,
  z.1,
  λ more s.
      let m = suc (length ts + length (z.0 ++ more)) in
      let y = l m ts in
      let q : r (suc (length ts)) ts ≡ r m ts = same (suc (length ts)) m ts (omega arith) (omega arith) in
      let b : z.0 ≡ y.0 = append_cancel_right z.0 y.0 (rest_of (r (suc (length ts)) ts)) (sym z.1 ∙ y.1 ∙ ap (λ o. y.0 ++ rest_of o) (sym q)) in
      same (suc (length (z.0 ++ more))) m (z.0 ++ more) (omega arith) (omega arith)
      ∙ ap (λ x. r m (x ++ more)) b ∙ y.2 more (subst (λ o. SameHead (rest_of o) more) q s) ∙ ap (with_rest more) (sym q),
)

module _ {A B : Type 0} (test : Token → Option B) (item : List Token → Outcome A) where
  abbrev pub turn_end : ℕ → A → List Token → Outcome (List A)
  turn_end n a rest = then_read (more_in test item n rest) (λ bs. done (a ∷ bs))

  abbrev pub turn : ℕ → List Token → Outcome (List A)
  turn n ts = then_read (item ts) (turn_end n)

  pub local_more_in : Local item → (n : ℕ) → Local (more_in test item n)
  local_more_in l zero = local_stop false
  local_more_in l (suc n) = local_next test (λ _. turn n) (done [])
      (λ _. local_then item (turn_end n) l (λ a. local_then (more_in test item n) (λ bs. done (a ∷ bs)) (local_more_in l n) (λ bs. local_done (a ∷ bs)))) (local_done [])

  more_turns : Local item → (n m : ℕ) (ts : List Token) → length ts < n → length ts < m → more_in test item n ts ≡ more_in test item m ts
  more_turns l zero m ts h i = absurd (omega (arith, h))
  more_turns l (suc n) zero ts h i = absurd (omega (arith, i))
  more_turns l (suc n) (suc m) ts h i = next_same test (λ _. turn n) (λ _. turn m) (done []) (done []) ts
      (λ _ xs s. then_same (item xs) (turn_end n) (turn_end m) (λ a rest e. let o = left_over item l xs a rest e in
      ap (λ x. then_read x (λ bs. done (a ∷ bs))) (more_turns l n m rest (omega (arith, o, s, h)) (omega (arith, o, s, i))))) refl

  pub local_more : Local item → Local (more test item)
  local_more l = counted (more_in test item) (local_more_in l) (more_turns l)

  abbrev pub row_end : ℕ → A → List Token → Outcome (List A × B)
  row_end n a rest = then_read (many_in test item n rest) (λ bs. done (a ∷ bs.0, bs.1))

  abbrev pub row : ℕ → List Token → Outcome (List A × B)
  row n ts = then_read (item ts) (row_end n)

  pub local_many_in : Local item → (n : ℕ) → Local (many_in test item n)
  local_many_in l zero = local_stop false
  local_many_in l (suc n) = local_next test (λ b. done ([], b)) (row n) (λ b. local_done ([], b))
      (local_then item (row_end n) l (λ a. local_then (many_in test item n) (λ bs. done (a ∷ bs.0, bs.1)) (local_many_in l n) (λ bs. local_done (a ∷ bs.0, bs.1))))

  many_turns : Eats item → (n m : ℕ) (ts : List Token) → length ts < n → length ts < m → many_in test item n ts ≡ many_in test item m ts
  many_turns eats zero m ts h i = absurd (omega (arith, h))
  many_turns eats (suc n) zero ts h i = absurd (omega (arith, i))
  many_turns eats (suc n) (suc m) ts h i = next_same test (λ b. done ([], b)) (λ b. done ([], b)) (row n) (row m) ts (λ b xs s. refl)
      (then_same (item ts) (row_end n) (row_end m) (λ a rest e. let o = eats ts a rest e in
      ap (λ x. then_read x (λ bs. done (a ∷ bs.0, bs.1))) (many_turns eats n m rest (omega (arith, o, h)) (omega (arith, o, i)))))

  pub local_many : Eats item → Local item → Local (many test item)
  local_many eats l = counted (many_in test item) (local_many_in l) (many_turns eats)

pub local_peek : {A B : Type 0} (test : Token → Option B) (f other : List Token → Outcome A) → Local f → Local other → Local (peek test f other)
local_peek test f other g l [] = empty_at (peek test f other) other refl (other []) refl (l [])
local_peek {A} {B} test f other g l (t ∷ ts) = go (test t) refl
  where
    go : (o : Option B) → test t ≡ o → LocalAt (peek test f other) (t ∷ ts) (on_option o (λ b. f (t ∷ ts)) (other (t ∷ ts)))
    go (Some b) e = else_at (peek test f other) f t (λ xs. ap (λ o. on_option o (λ b. f (t ∷ xs)) (other (t ∷ xs))) e) ts (f (t ∷ ts)) (g (t ∷ ts))
    go None e = else_at (peek test f other) other t (λ xs. ap (λ o. on_option o (λ b. f (t ∷ xs)) (other (t ∷ xs))) e) ts (other (t ∷ ts)) (l (t ∷ ts))

pub local_descend : {A B D : Type 0} (down : Option D) (test : Token → Option B) (f : D → List Token → Outcome A) (other : List Token → Outcome A)
    → ((r : D) → down ≡ Some r → Local (f r)) → Local other → Local (descend down test f other)
local_descend None test f other g l = local_deep test other l
local_descend (Some r) test f other g l = local_peek test (f r) other (g r refl) l

pub local_if : {A : Type 0} (b : Bool) (f g : List Token → Outcome A) → Local f → Local g → Local (if b then f else g)
local_if true f g l m = l
local_if false f g l m = m
