-- The steps of a reader, as the parser takes them.
use Rattle.std.proofs.Common.{◌≡◌, ℕ, zero, suc, ◌<◌, Bool, true, false, List, [], ◌∷◌, ◌++◌, length, Option, Some, None, refl, sym, ap, subst, ◌∙◌, append_assoc, append-nil, arith}
use Rattle.verilog_exprs.specs.declared.halt.Halt.{Halt}
use Rattle.verilog_exprs.specs.declared.halt.Halt.TheVariants.{Refused, Memory}
use Rattle.verilog_exprs.specs.Halts.{HaltsAs, by_memory, by_refusal}
use Rattle.verilog_exprs.specs.Next.{Takes, Lacks}
use Rattle.verilog_lex.specs.declared.token.Token.{Token}
use Rattle.verilog_reading.specs.Outcome.{Outcome, done, stop, then_read, on_option, next, deep, enter, peek, descend, expect, refuse}
use Rattle.verilog_reading.specs.Lists.{more, more_in, many_in}
use Rattle.verilog_reading.specs.Laws.{Local}
use Rattle.verilog_reading.proofs.Local.{Eats, turn, turn_end, row, row_end, next_same, then_same, left_over}
use Rattle.verilog_reading.proofs.Complete.{next_found, next_free, enter_free, peek_found, peek_free, descend_free}

-- halts
pub halts_then : {A B : Type 0} (o : Outcome A) (f : A → List Token → Outcome B) (h : Halt) → HaltsAs o h → HaltsAs (then_read o f) h
halts_then o f Memory by_memory = by_memory
halts_then o f _ (by_refusal d rest e) = by_refusal d rest (ap (λ x. then_read x f) e)

pub halts_by : {A : Type 0} (o p : Outcome A) (h : Halt) → o ≡ p → HaltsAs p h → HaltsAs o h
halts_by o p h e w = subst (λ x. HaltsAs x h) (sym e) w

pub halts_at : {A : Type 0} (o : Outcome A) (d : Bool) (rest : List Token) (h : Halt) → o ≡ stop d rest → h ≡ Refused d (length rest) → HaltsAs o h
halts_at o d rest h e w = subst (HaltsAs o) (sym w) (by_refusal d rest e)

pub halts_for_memory : {A : Type 0} (o : Outcome A) (h : Halt) → h ≡ Memory → HaltsAs o h
halts_for_memory o h w = subst (HaltsAs o) (sym w) by_memory

-- tests of the next token
pub then_done : {A B : Type 0} (o : Outcome A) (f : A → List Token → Outcome B) (a : A) (rest : List Token) → o ≡ done a rest → then_read o f ≡ f a rest
then_done o f a rest e = ap (λ x. then_read x f) e

pub next_takes : {A B : Type 0} (test : Token → Option B) (f : B → List Token → Outcome A) (other : List Token → Outcome A) (b : B) (ts rest : List Token) → Takes test b ts rest → next test f other ts ≡ f b rest
next_takes test f other b ts rest w = ap (next test f other) w.is ∙ next_found test f other w.token b rest w.finds

pub next_lacks : {A B : Type 0} (test : Token → Option B) (f : B → List Token → Outcome A) (other : List Token → Outcome A) (ts : List Token) → Lacks test ts → next test f other ts ≡ other ts
next_lacks test f other ts w = next_free test f other ts w.free

pub deep_takes : {A B : Type 0} (test : Token → Option B) (other : List Token → Outcome A) (b : B) (ts rest : List Token) → Takes test b ts rest → deep test other ts ≡ stop true ts
deep_takes test other b ts rest w = ap (deep test other) w.is ∙ ap (λ o. on_option o (λ b. stop true (w.token ∷ rest)) (other (w.token ∷ rest))) w.finds ∙ ap (stop true) (sym w.is)

pub enter_some : {A B D : Type 0} (down : Option D) (test : Token → Option B) (f : D → B → List Token → Outcome A) (other : List Token → Outcome A) (r : D) (b : B) (ts rest : List Token)
    → down ≡ Some r → Takes test b ts rest → enter down test f other ts ≡ f r b rest
enter_some down test f other r b ts rest e w = ap (λ d. enter d test f other ts) e ∙ next_takes test (f r) other b ts rest w

pub enter_none : {A B D : Type 0} (down : Option D) (test : Token → Option B) (f : D → B → List Token → Outcome A) (other : List Token → Outcome A) (b : B) (ts rest : List Token)
    → down ≡ None → Takes test b ts rest → enter down test f other ts ≡ stop true ts
enter_none down test f other b ts rest e w = ap (λ d. enter d test f other ts) e ∙ deep_takes test other b ts rest w

pub enter_lacks : {A B D : Type 0} (down : Option D) (test : Token → Option B) (f : D → B → List Token → Outcome A) (other : List Token → Outcome A) (ts : List Token)
    → Lacks test ts → enter down test f other ts ≡ other ts
enter_lacks down test f other ts w = enter_free down test f other ts w.free

pub peek_takes : {A B : Type 0} (test : Token → Option B) (f other : List Token → Outcome A) (b : B) (ts rest : List Token) → Takes test b ts rest → peek test f other ts ≡ f ts
peek_takes test f other b ts rest w = ap (peek test f other) w.is ∙ peek_found test f other w.token b rest w.finds ∙ ap f (sym w.is)

pub peek_lacks : {A B : Type 0} (test : Token → Option B) (f other : List Token → Outcome A) (ts : List Token) → Lacks test ts → peek test f other ts ≡ other ts
peek_lacks test f other ts w = peek_free test f other ts w.free

pub descend_some : {A B D : Type 0} (down : Option D) (test : Token → Option B) (f : D → List Token → Outcome A) (other : List Token → Outcome A) (r : D) (b : B) (ts rest : List Token)
    → down ≡ Some r → Takes test b ts rest → descend down test f other ts ≡ f r ts
descend_some down test f other r b ts rest e w = ap (λ d. descend d test f other ts) e ∙ peek_takes test (f r) other b ts rest w

pub descend_none : {A B D : Type 0} (down : Option D) (test : Token → Option B) (f : D → List Token → Outcome A) (other : List Token → Outcome A) (b : B) (ts rest : List Token)
    → down ≡ None → Takes test b ts rest → descend down test f other ts ≡ stop true ts
descend_none down test f other b ts rest e w = ap (λ d. descend d test f other ts) e ∙ deep_takes test other b ts rest w

pub descend_lacks : {A B D : Type 0} (down : Option D) (test : Token → Option B) (f : D → List Token → Outcome A) (other : List Token → Outcome A) (ts : List Token)
    → Lacks test ts → descend down test f other ts ≡ other ts
descend_lacks down test f other ts w = descend_free down test f other ts w.free

-- a mark, a word or a name that has to stand next
pub expect_halts : {A B : Type 0} (test : Token → Option B) (f : B → List Token → Outcome A) (ts : List Token) (h : Halt) → Lacks test ts → h ≡ Refused false (length ts) → HaltsAs (expect test f ts) h
expect_halts test f ts h w e = halts_at (expect test f ts) false ts h (next_lacks test f refuse ts w) e

-- lists: what is read so far, and the reader that goes on with it
abbrev pub put_before : {A : Type 0} → List A → List A → List Token → Outcome (List A)
put_before front bs = done (front ++ bs)

join_before : {A : Type 0} (o : Outcome (List A)) (front : List A) (a : A) → then_read (then_read o (λ bs. done (a ∷ bs))) (put_before front) ≡ then_read o (put_before (front ++ a ∷ []))
join_before (done bs rest) front a = ap (λ x. done x rest) (sym (append_assoc front (a ∷ []) bs))
join_before (stop d rest) front a = refl

none_before : {A : Type 0} (o : Outcome (List A)) → then_read o (put_before []) ≡ o
none_before (done bs rest) = refl
none_before (stop d rest) = refl

module _ {A B : Type 0} (test : Token → Option B) (item : List Token → Outcome A) where
  pub more_turns : Local item → (n m : ℕ) (ts : List Token) → length ts < n → length ts < m → more_in test item n ts ≡ more_in test item m ts
  more_turns l zero m ts h i = absurd (omega (arith, h))
  more_turns l (suc n) zero ts h i = absurd (omega (arith, i))
  more_turns l (suc n) (suc m) ts h i = next_same test (λ _. turn test item n) (λ _. turn test item m) (done []) (done []) ts
      (λ _ xs s. then_same (item xs) (turn_end test item n) (turn_end test item m) (λ a rest e. let o = left_over item l xs a rest e in
      ap (λ x. then_read x (λ bs. done (a ∷ bs))) (more_turns l n m rest (omega (arith, o, s, h)) (omega (arith, o, s, i))))) refl

  pub many_turns : Eats item → (n m : ℕ) (ts : List Token) → length ts < n → length ts < m → many_in test item n ts ≡ many_in test item m ts
  many_turns eats zero m ts h i = absurd (omega (arith, h))
  many_turns eats (suc n) zero ts h i = absurd (omega (arith, i))
  many_turns eats (suc n) (suc m) ts h i = next_same test (λ b. done ([], b)) (λ b. done ([], b)) (row test item n) (row test item m) ts (λ b xs s. refl)
      (then_same (item ts) (row_end test item n) (row_end test item m) (λ a rest e. let o = eats ts a rest e in
      ap (λ x. then_read x (λ bs. done (a ∷ bs.0, bs.1))) (many_turns eats n m rest (omega (arith, o, h)) (omega (arith, o, i)))))

  -- after the separator
  pub more_enters : (b : B) (ts after : List Token) → Takes test b ts after → more test item ts ≡ then_read (item after) (turn_end test item (length ts))
  more_enters b ts after w = next_takes test (λ _. turn test item (length ts)) (done []) b ts after w

  -- `front` is read, and `rest` is left of what the whole reads
  pub record Listing (whole : Outcome (List A)) (front : List A) (rest : List Token) : Type 0 where
    pub goes : whole ≡ then_read (more test item rest) (put_before front)

  pub listing_none : (ts : List Token) → Listing (more test item ts) [] ts
  listing_none ts = record { goes = sym (none_before (more test item ts)) }

  pub listing_more : Local item → (whole : Outcome (List A)) (front : List A) (b : B) (ts after : List Token) (a : A) (rest : List Token)
      → Listing whole front ts → Takes test b ts after → item after ≡ done a rest → Listing whole (front ++ a ∷ []) rest
  listing_more l whole front b ts after a rest g w e =
      let o = left_over item l after a rest e in
      let z : length ts ≡ suc (length after) = ap length w.is in
      record {
        goes = g.goes ∙ ap (λ x. then_read x (put_before front)) (more_enters b ts after w ∙ then_done (item after) (turn_end test item (length ts)) a rest e
            ∙ ap (λ x. then_read x (λ bs. done (a ∷ bs))) (more_turns l (length ts) (suc (length rest)) rest (omega (arith, o, z)) (omega arith)))
            ∙ join_before (more test item rest) front a;
      }

  pub listing_halts : (whole : Outcome (List A)) (front : List A) (b : B) (ts after : List Token) (h : Halt) → Listing whole front ts → Takes test b ts after → HaltsAs (item after) h → HaltsAs whole h
  listing_halts whole front b ts after h g w i = halts_by whole (then_read (more test item ts) (put_before front)) h g.goes
      (halts_then (more test item ts) (put_before front) h (halts_by (more test item ts) (then_read (item after) (turn_end test item (length ts))) h (more_enters b ts after w)
      (halts_then (item after) (turn_end test item (length ts)) h i)))

  pub listing_end : (whole : Outcome (List A)) (front : List A) (ts : List Token) → Listing whole front ts → Lacks test ts → whole ≡ done front ts
  listing_end whole front ts g w = g.goes ∙ ap (λ x. then_read x (put_before front)) (next_lacks test (λ _. turn test item (length ts)) (done []) ts w) ∙ ap (λ x. done x ts) (append-nil front)
