-- With more levels the outcome is the same, but for a token that is refused for its depth: the law of each combinator.
use Rattle.std.proofs.Common.{Bool, if◌then◌else◌, ◌≡◌, ℕ, zero, suc, ◌<◌, true, false, List, [], ◌∷◌, length, Option, Some, None, refl, sym, ap, subst, arith}
use Rattle.verilog_lex.specs.declared.token.Token.{Token}
use Rattle.verilog_lex.specs.declared.marks.MarkKind.{MarkKind}
use Rattle.verilog_reading.specs.Lexemes.{mark_in}
use Rattle.verilog_reading.specs.Outcome.{Outcome, done, stop, then_read, next, refuse, expect, deep, enter, peek, descend, on_option}
use Rattle.verilog_reading.specs.Reader.{closed}
use Rattle.verilog_reading.specs.Lists.{more, more_in, many, many_in}
use Rattle.verilog_reading.specs.Laws.{Above, rest_of, Local}
use Rattle.verilog_reading.proofs.Local.{shrinks, local_then, local_done, local_more_in, local_many_in, turn, turn_end, row, row_end}

pub above_then : {A B : Type 0} (o o2 : Outcome A) → Above o o2 → (f f2 : A → List Token → Outcome B)
    → ((a : A) (rest : List Token) → o ≡ done a rest → Above (f a rest) (f2 a rest)) → ((a : A) → Local (f2 a)) → Above (then_read o f) (then_read o2 f2)
above_then (done a rest) o2 h f f2 g s = subst (λ x. Above (f a rest) (then_read x f2)) (sym h) (g a rest refl)
above_then (stop false rest) o2 h f f2 g s = ap (λ x. then_read x f2) h
above_then (stop true rest) (done a last) h f f2 g s = let e = shrinks (f2 a) (s a) last in omega (arith, h, e)
above_then (stop true rest) (stop d last) h f f2 g s = h

pub above_next : {A B : Type 0} (test : Token → Option B) (f f2 : B → List Token → Outcome A) (other other2 : List Token → Outcome A)
    → ((b : B) (ts : List Token) → Above (f b ts) (f2 b ts)) → ((ts : List Token) → Above (other ts) (other2 ts)) → (ts : List Token) → Above (next test f other ts) (next test f2 other2 ts)
above_next test f f2 other other2 g h [] = h []
above_next {A} {B} test f f2 other other2 g h (t ∷ ts) = go (test t)
  where
    go : (o : Option B) → Above (on_option o (λ b. f b ts) (other (t ∷ ts))) (on_option o (λ b. f2 b ts) (other2 (t ∷ ts)))
    go (Some b) = g b ts
    go None = h (t ∷ ts)

pub above_done : {A : Type 0} (a : A) (ts : List Token) → Above (done a ts) (done a ts)
above_done a ts = refl

pub above_refuse : {A : Type 0} (ts : List Token) → Above (refuse {A = A} ts) (refuse {A = A} ts)
above_refuse ts = refl

pub above_expect : {A B : Type 0} (test : Token → Option B) (f f2 : B → List Token → Outcome A) → ((b : B) (ts : List Token) → Above (f b ts) (f2 b ts))
    → (ts : List Token) → Above (expect test f ts) (expect test f2 ts)
above_expect test f f2 g = above_next test f f2 refuse refuse g above_refuse

pub above_closed : {A : Type 0} (m : MarkKind) (a : A) (ts : List Token) → Above (closed m a ts) (closed m a ts)
above_closed m a = above_expect (mark_in m) (λ _. done a) (λ _. done a) (λ _. above_done a)

pub above_deep : {A B : Type 0} (test : Token → Option B) (f2 : B → List Token → Outcome A) (other other2 : List Token → Outcome A)
    → ((b : B) → Local (f2 b)) → ((ts : List Token) → Above (other ts) (other2 ts)) → (ts : List Token) → Above (deep test other ts) (next test f2 other2 ts)
above_deep test f2 other other2 g h [] = h []
above_deep {A} {B} test f2 other other2 g h (t ∷ ts) = go (test t)
  where
    go : (o : Option B) → Above (on_option o (λ b. stop true (t ∷ ts)) (other (t ∷ ts))) (on_option o (λ b. f2 b ts) (other2 (t ∷ ts)))
    go (Some b) = let e = shrinks (f2 b) (g b) ts in omega (arith, e)
    go None = h (t ∷ ts)

-- the way down at more levels is open
pub above_enter : {A B D : Type 0} (down : Option D) (r2 : D) (test : Token → Option B) (f f2 : D → B → List Token → Outcome A) (other other2 : List Token → Outcome A)
    → ((r : D) → down ≡ Some r → (b : B) (ts : List Token) → Above (f r b ts) (f2 r2 b ts)) → ((b : B) → Local (f2 r2 b)) → ((ts : List Token) → Above (other ts) (other2 ts))
    → (ts : List Token) → Above (enter down test f other ts) (enter (Some r2) test f2 other2 ts)
above_enter None r2 test f f2 other other2 g s h = above_deep test (f2 r2) other other2 s h
above_enter (Some r) r2 test f f2 other other2 g s h = above_next test (f r) (f2 r2) other other2 (g r refl) h

pub above_trans : {A : Type 0} (o p q : Outcome A) → Above o p → Above p q → Above o q
above_trans (done a rest) p q h i = subst (λ x. Above x q) h i
above_trans (stop false rest) p q h i = subst (λ x. Above x q) h i
above_trans (stop true rest) (done a r) q h i = subst (λ x. length (rest_of x) < length rest) (sym i) h
above_trans (stop true rest) (stop false r) q h i = subst (λ x. length (rest_of x) < length rest) (sym i) h
above_trans (stop true rest) (stop true r) q h i = omega (arith, h, i)

module _ {A B : Type 0} (test : Token → Option B) (item item2 : List Token → Outcome A) (h : (ts : List Token) → Above (item ts) (item2 ts)) (l : Local item2) where
  above_more_in : (n : ℕ) (ts : List Token) → Above (more_in test item n ts) (more_in test item2 n ts)
  above_more_in zero ts = refl
  above_more_in (suc n) ts = above_next test (λ _. turn test item n) (λ _. turn test item2 n) (done []) (done [])
      (λ _ xs. above_then (item xs) (item2 xs) (h xs) (turn_end test item n) (turn_end test item2 n)
      (λ a rest _. above_then (more_in test item n rest) (more_in test item2 n rest) (above_more_in n rest) (λ bs. done (a ∷ bs)) (λ bs. done (a ∷ bs)) (λ bs ys _. above_done (a ∷ bs) ys) (λ bs. local_done (a ∷ bs)))
      (λ a. local_then (more_in test item2 n) (λ bs. done (a ∷ bs)) (local_more_in test item2 l n) (λ bs. local_done (a ∷ bs))))
      (above_done []) ts

  pub above_more : (ts : List Token) → Above (more test item ts) (more test item2 ts)
  above_more ts = above_more_in (suc (length ts)) ts

  above_many_in : (n : ℕ) (ts : List Token) → Above (many_in test item n ts) (many_in test item2 n ts)
  above_many_in zero ts = refl
  above_many_in (suc n) ts = above_next test (λ b. done ([], b)) (λ b. done ([], b)) (row test item n) (row test item2 n) (λ b. above_done ([], b))
      (λ xs. above_then (item xs) (item2 xs) (h xs) (row_end test item n) (row_end test item2 n)
      (λ a rest _. above_then (many_in test item n rest) (many_in test item2 n rest) (above_many_in n rest) (λ bs. done (a ∷ bs.0, bs.1)) (λ bs. done (a ∷ bs.0, bs.1)) (λ bs ys _. above_done (a ∷ bs.0, bs.1) ys) (λ bs. local_done (a ∷ bs.0, bs.1)))
      (λ a. local_then (many_in test item2 n) (λ bs. done (a ∷ bs.0, bs.1)) (local_many_in test item2 l n) (λ bs. local_done (a ∷ bs.0, bs.1)))) ts

  pub above_many : (ts : List Token) → Above (many test item ts) (many test item2 ts)
  above_many ts = above_many_in (suc (length ts)) ts

-- a reader that passes each token which the test finds
abbrev pub Passes : {A B : Type 0} → (Token → Option B) → (List Token → Outcome A) → Type 0
Passes {A} {B} test f = (t : Token) (b : B) (ts : List Token) → test t ≡ Some b → length (rest_of (f (t ∷ ts))) < length (t ∷ ts)

pub above_peek : {A B : Type 0} (test : Token → Option B) (f f2 other other2 : List Token → Outcome A)
    → ((ts : List Token) → Above (f ts) (f2 ts)) → ((ts : List Token) → Above (other ts) (other2 ts)) → (ts : List Token) → Above (peek test f other ts) (peek test f2 other2 ts)
above_peek test f f2 other other2 g h [] = h []
above_peek {A} {B} test f f2 other other2 g h (t ∷ ts) = go (test t)
  where
    go : (o : Option B) → Above (on_option o (λ b. f (t ∷ ts)) (other (t ∷ ts))) (on_option o (λ b. f2 (t ∷ ts)) (other2 (t ∷ ts)))
    go (Some b) = g (t ∷ ts)
    go None = h (t ∷ ts)

pub above_left : {A B : Type 0} (test : Token → Option B) (f2 other other2 : List Token → Outcome A)
    → Passes test f2 → ((ts : List Token) → Above (other ts) (other2 ts)) → (ts : List Token) → Above (deep test other ts) (peek test f2 other2 ts)
above_left test f2 other other2 g h [] = h []
above_left {A} {B} test f2 other other2 g h (t ∷ ts) = go (test t) refl
  where
    go : (o : Option B) → test t ≡ o → Above (on_option o (λ b. stop true (t ∷ ts)) (other (t ∷ ts))) (on_option o (λ b. f2 (t ∷ ts)) (other2 (t ∷ ts)))
    go (Some b) e = g t b ts e
    go None e = h (t ∷ ts)

pub above_descend : {A B D : Type 0} (down : Option D) (r2 : D) (test : Token → Option B) (f f2 : D → List Token → Outcome A) (other other2 : List Token → Outcome A)
    → ((r : D) → down ≡ Some r → (ts : List Token) → Above (f r ts) (f2 r2 ts)) → Passes test (f2 r2) → ((ts : List Token) → Above (other ts) (other2 ts))
    → (ts : List Token) → Above (descend down test f other ts) (descend (Some r2) test f2 other2 ts)
above_descend None r2 test f f2 other other2 g s h = above_left test (f2 r2) other other2 s h
above_descend (Some r) r2 test f f2 other other2 g s h = above_peek test (f r) (f2 r2) other other2 (g r refl) h

pub above_if : {A : Type 0} (b : Bool) (f f2 g g2 : List Token → Outcome A) → ((ts : List Token) → Above (f ts) (f2 ts)) → ((ts : List Token) → Above (g ts) (g2 ts))
    → (ts : List Token) → Above ((if b then f else g) ts) ((if b then f2 else g2) ts)
above_if true f f2 g g2 h i = h
above_if false f f2 g g2 h i = i
