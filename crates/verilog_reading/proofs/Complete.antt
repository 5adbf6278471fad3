-- What reads is read: the law of each combinator.
use Rattle.std.proofs.Common.{◌≡◌, ℕ, zero, suc, ◌≤◌, ◌<◌, true, List, [], ◌∷◌, ◌++◌, length, Option, Some, None, refl, sym, ap, ◌∙◌, append_assoc, arith}
use Rattle.verilog_lex.specs.declared.token.Token.{Token}
use Rattle.verilog_reading.specs.Outcome.{Outcome, done, stop, then_read, next, deep, enter, peek, descend, on_option}
use Rattle.verilog_reading.specs.Lists.{more, more_in, many, many_in, AreMore, no_more, one_more, AreMany, none_of, one_of}
use Rattle.verilog_reading.specs.Laws.{Free}
use Rattle.verilog_reading.proofs.Local.{turn, turn_end, row, row_end, Eats}

pub deep_free : {A B : Type 0} (test : Token → Option B) (other : List Token → Outcome A) (ts : List Token) → Free test ts → deep test other ts ≡ other ts
deep_free test other [] h = refl
deep_free test other (t ∷ ts) h = ap (λ o. on_option o (λ b. stop true (t ∷ ts)) (other (t ∷ ts))) h

pub next_free : {A B : Type 0} (test : Token → Option B) (f : B → List Token → Outcome A) (other : List Token → Outcome A) (ts : List Token) → Free test ts → next test f other ts ≡ other ts
next_free test f other [] h = refl
next_free test f other (t ∷ ts) h = ap (λ o. on_option o (λ b. f b ts) (other (t ∷ ts))) h

pub enter_free : {A B D : Type 0} (down : Option D) (test : Token → Option B) (f : D → B → List Token → Outcome A) (other : List Token → Outcome A) (ts : List Token) → Free test ts → enter down test f other ts ≡ other ts
enter_free None test f other ts h = deep_free test other ts h
enter_free (Some r) test f other ts h = next_free test (f r) other ts h

pub next_found : {A B : Type 0} (test : Token → Option B) (f : B → List Token → Outcome A) (other : List Token → Outcome A) (t : Token) (b : B) (ts : List Token) → test t ≡ Some b → next test f other (t ∷ ts) ≡ f b ts
next_found test f other t b ts e = ap (λ o. on_option o (λ b. f b ts) (other (t ∷ ts))) e

module _ {A B : Type 0} (test : Token → Option B) (item : List Token → Outcome A) (tok : B → Token) (is : (b : B) → test (tok b) ≡ Some b) (R : List Token → A → Type 0)
    (Stands : List Token → Type 0) (stands : (b : B) (ts : List Token) → Stands (tok b ∷ ts))
    (reads : (u : List Token) (a : A) → R u a → (rest : List Token) → Stands rest → item (u ++ rest) ≡ done a rest) where
  behind_more : {v : List Token} {bs : List A} → AreMore tok R v bs → (rest : List Token) → Stands rest → Stands (v ++ rest)
  behind_more no_more rest s = s
  behind_more (one_more b {u} {v} {a} {bs} p q) rest s = stands b ((u ++ v) ++ rest)

  c_more_in : (n : ℕ) {v : List Token} {bs : List A} → AreMore tok R v bs → (rest : List Token) → Stands rest → Free test rest → length (v ++ rest) < n
      → more_in test item n (v ++ rest) ≡ done bs rest
  c_more_in zero m rest s f h = absurd (omega (arith, h))
  c_more_in (suc n) no_more rest s f h = next_free test (λ _. turn test item n) (done []) rest f
  c_more_in (suc n) (one_more b {u} {v} {a} {bs} p q) rest s f h =
      let e : (u ++ v) ++ rest ≡ u ++ (v ++ rest) = append_assoc u v rest in
      let l : length (u ++ (v ++ rest)) ≡ length ((u ++ v) ++ rest) = ap length (sym e) in
      let le = longer u (v ++ rest) in
      next_found test (λ _. turn test item n) (done []) (tok b) b ((u ++ v) ++ rest) (is b)
      ∙ ap (turn test item n) e
      ∙ ap (λ o. then_read o (turn_end test item n)) (reads u a p (v ++ rest) (behind_more q rest s))
      ∙ ap (λ o. then_read o (λ bs. done (a ∷ bs))) (c_more_in n q rest s f (omega (arith, l, le, h)))
    where
      longer : (u w : List Token) → length w ≤ length (u ++ w)
      longer [] w = omega arith
      longer (x ∷ xs) w = let z = longer xs w in omega (arith, z)

  pub c_more : {v : List Token} {bs : List A} → AreMore tok R v bs → (rest : List Token) → Stands rest → Free test rest → more test item (v ++ rest) ≡ done bs rest
  c_more {v} {bs} m rest s f = c_more_in (suc (length (v ++ rest))) m rest s f (omega arith)

module _ {A B : Type 0} (close : Token → Option B) (item : List Token → Outcome A) (eats : Eats item) (R : List Token → A → Type 0)
    (starts : (u : List Token) (a : A) → R u a → (rest : List Token) → Free close (u ++ rest)) (t : Token) (b : B) (is : close t ≡ Some b)
    (reads : (u v : List Token) (a : A) (bs : List A) → R u a → AreMany R v bs → (rest : List Token) → item (u ++ (v ++ t ∷ rest)) ≡ done a (v ++ t ∷ rest)) where
  c_many_in : (n : ℕ) {v : List Token} {bs : List A} → AreMany R v bs → (rest : List Token) → length (v ++ t ∷ rest) < n → many_in close item n (v ++ t ∷ rest) ≡ done (bs, b) rest
  c_many_in zero m rest h = absurd (omega (arith, h))
  c_many_in (suc n) none_of rest h = next_found close (λ b. done ([], b)) (row close item n) t b rest is
  c_many_in (suc n) (one_of {u} {v} {a} {bs} p q) rest h =
      let e = reads u v a bs p q rest in
      let l = eats (u ++ (v ++ t ∷ rest)) a (v ++ t ∷ rest) e in
      let z : length ((u ++ v) ++ t ∷ rest) ≡ length (u ++ (v ++ t ∷ rest)) = ap length (append_assoc u v (t ∷ rest)) in
      ap (many_in close item (suc n)) (append_assoc u v (t ∷ rest))
      ∙ next_free close (λ b. done ([], b)) (row close item n) (u ++ (v ++ t ∷ rest)) (starts u a p (v ++ t ∷ rest))
      ∙ ap (λ o. then_read o (row_end close item n)) e
      ∙ ap (λ o. then_read o (λ rows. done (a ∷ rows.0, rows.1))) (c_many_in n q rest (omega (arith, l, z, h)))

  pub c_many : {v : List Token} {bs : List A} → AreMany R v bs → (rest : List Token) → many close item (v ++ t ∷ rest) ≡ done (bs, b) rest
  c_many {v} {bs} m rest = c_many_in (suc (length (v ++ t ∷ rest))) m rest (omega arith)

pub peek_found : {A B : Type 0} (test : Token → Option B) (f other : List Token → Outcome A) (t : Token) (b : B) (ts : List Token) → test t ≡ Some b → peek test f other (t ∷ ts) ≡ f (t ∷ ts)
peek_found test f other t b ts e = ap (λ o. on_option o (λ b. f (t ∷ ts)) (other (t ∷ ts))) e

pub peek_free : {A B : Type 0} (test : Token → Option B) (f other : List Token → Outcome A) (ts : List Token) → Free test ts → peek test f other ts ≡ other ts
peek_free test f other [] h = refl
peek_free test f other (t ∷ ts) h = ap (λ o. on_option o (λ b. f (t ∷ ts)) (other (t ∷ ts))) h

pub descend_free : {A B D : Type 0} (down : Option D) (test : Token → Option B) (f : D → List Token → Outcome A) (other : List Token → Outcome A) (ts : List Token) → Free test ts → descend down test f other ts ≡ other ts
descend_free None test f other ts h = deep_free test other ts h
descend_free (Some r) test f other ts h = peek_free test (f r) other ts h
