-- What a reader gives is read, and what it refuses can be completed up to there: the law of each combinator.
use Rattle.std.proofs.Common.{◌≡◌, Bool, true, false, List, [], ◌∷◌, ◌++◌, Option, Some, None, refl, sym, ap, subst, ◌∙◌, append_assoc}
use Rattle.cdc_base.specs.declared.words.Keyword.{Keyword}
use Rattle.verilog_lex.specs.declared.token.Token.{Token}
use Rattle.verilog_lex.specs.declared.marks.MarkKind.{MarkKind}
use Rattle.verilog_reading.specs.Lexemes.{Spot, mark, mark_in, word, word_in}
use Rattle.verilog_reading.specs.Outcome.{Outcome, done, stop, then_read, next, refuse, expect, deep, enter, peek, descend, on_option}
use Rattle.verilog_reading.specs.Reader.{closed}
use Rattle.verilog_reading.specs.Laws.{Says}
use Rattle.verilog_reading.proofs.Tests.{mark_is, word_is, nowhere}

pub says_done : {A : Type 0} (P : List Token → A → Type 0) (a : A) → P [] a → (ts : List Token) → Says P ts (done a ts)
says_done P a p ts = ([], refl, p)

pub says_stop : {A : Type 0} (P : List Token → A → Type 0) (d : Bool) (more : List Token) (a : A) → P more a → (ts : List Token) → Says P ts (stop d ts)
says_stop P d more a p ts = ([], refl, more, a, p)

pub says_behind : {A : Type 0} (P : List Token → A → Type 0) (u rest ts : List Token) → ts ≡ u ++ rest → (o : Outcome A) → Says (λ v. P (u ++ v)) rest o → Says P ts o
says_behind P u rest ts e (done a last) s = (u ++ s.0, e ∙ ap (λ x. u ++ x) s.1 ∙ sym (append_assoc u s.0 last), s.2)
says_behind P u rest ts e (stop d last) s = (u ++ s.0, e ∙ ap (λ x. u ++ x) s.1 ∙ sym (append_assoc u s.0 last), s.2, s.3, subst (λ x. P x s.3) (sym (append_assoc u s.0 s.2)) s.4)

finish : {A : Type 0} (P : List Token → A → Type 0) (ts : List Token) (o : Outcome A) → Says P ts o → (w : List Token) × (a : A) × P w a
finish P ts (done a rest) s = (s.0, a, s.2)
finish P ts (stop d rest) s = (s.0 ++ s.2, s.3, s.4)

pub says_then : {A B : Type 0} (P : List Token → A → Type 0) (Q : List Token → B → Type 0) (ts : List Token) (o : Outcome A) → Says P ts o
    → (f : A → List Token → Outcome B) → ((u : List Token) (a : A) → P u a → (rest : List Token) → Says (λ v. Q (u ++ v)) rest (f a rest)) → Says Q ts (then_read o f)
says_then P Q ts (done a rest) s f g = says_behind Q s.0 rest ts s.1 (f a rest) (g s.0 a s.2 rest)
says_then P Q ts (stop d rest) s f g =
    let w = finish (λ v. Q ((s.0 ++ s.2) ++ v)) [] (f s.3 []) (g (s.0 ++ s.2) s.3 s.4 []) in
    (s.0, s.1, s.2 ++ w.0, w.1, subst (λ x. Q x w.1) (append_assoc s.0 s.2 w.0) w.2)

-- with what the test finds in the very token
pub says_found : {A B : Type 0} (P : List Token → A → Type 0) (test : Token → Option B) (tok : B → Token) → ((t : Token) (b : B) → test t ≡ Some b → t ≡ tok b)
    → (f : B → List Token → Outcome A) (other : List Token → Outcome A)
    → ((b : B) → test (tok b) ≡ Some b → (ts : List Token) → Says (λ v. P (tok b ∷ v)) ts (f b ts)) → ((ts : List Token) → Says P ts (other ts)) → (ts : List Token) → Says P ts (next test f other ts)
says_found P test tok is f other g h [] = h []
says_found {A} {B} P test tok is f other g h (t ∷ ts) = go (test t) refl
  where
    go : (o : Option B) → test t ≡ o → Says P (t ∷ ts) (on_option o (λ b. f b ts) (other (t ∷ ts)))
    go (Some b) e = says_behind P (tok b ∷ []) ts (t ∷ ts) (ap (λ x. x ∷ ts) (is t b e)) (f b ts) (g b (subst (λ x. test x ≡ Some b) (is t b e) e) ts)
    go None e = h (t ∷ ts)

pub says_next : {A B : Type 0} (P : List Token → A → Type 0) (test : Token → Option B) (tok : B → Token) → ((t : Token) (b : B) → test t ≡ Some b → t ≡ tok b)
    → (f : B → List Token → Outcome A) (other : List Token → Outcome A)
    → ((b : B) (ts : List Token) → Says (λ v. P (tok b ∷ v)) ts (f b ts)) → ((ts : List Token) → Says P ts (other ts)) → (ts : List Token) → Says P ts (next test f other ts)
says_next P test tok is f other g h = says_found P test tok is f other (λ b _. g b) h

pub says_mark : {A : Type 0} (P : List Token → A → Type 0) (m : MarkKind) (f : Spot → List Token → Outcome A) (other : List Token → Outcome A)
    → ((p : Spot) (ts : List Token) → Says (λ v. P (mark m p ∷ v)) ts (f p ts)) → ((ts : List Token) → Says P ts (other ts)) → (ts : List Token) → Says P ts (next (mark_in m) f other ts)
says_mark P m f other g h = says_next P (mark_in m) (mark m) (mark_is m) f other g h

-- the mark has to stand there, and the rest can be completed
pub says_expect : {A : Type 0} (P : List Token → A → Type 0) (m : MarkKind) (f : Spot → List Token → Outcome A)
    → ((p : Spot) (ts : List Token) → Says (λ v. P (mark m p ∷ v)) ts (f p ts)) → (ts : List Token) → Says P ts (expect (mark_in m) f ts)
says_expect P m f g ts = let w = finish (λ v. P (mark m nowhere ∷ v)) [] (f nowhere []) (g nowhere []) in
    says_mark P m f refuse g (says_stop P false (mark m nowhere ∷ w.0) w.1 w.2) ts

pub says_closed : {A : Type 0} (P : List Token → A → Type 0) (m : MarkKind) (a : A) → ((p : Spot) → P (mark m p ∷ []) a) → (ts : List Token) → Says P ts (closed m a ts)
says_closed P m a g = says_expect P m (λ _. done a) (λ p. says_done (λ v. P (mark m p ∷ v)) a (g p))

pub says_deep : {A B : Type 0} (P : List Token → A → Type 0) (test : Token → Option B) (other : List Token → Outcome A) (more : List Token) (a : A) → P more a
    → ((ts : List Token) → Says P ts (other ts)) → (ts : List Token) → Says P ts (deep test other ts)
says_deep P test other more a p h [] = h []
says_deep {A} {B} P test other more a p h (t ∷ ts) = go (test t)
  where
    go : (o : Option B) → Says P (t ∷ ts) (on_option o (λ b. stop true (t ∷ ts)) (other (t ∷ ts)))
    go (Some b) = ([], refl, more, a, p)
    go None = h (t ∷ ts)

pub says_enter : {A B D : Type 0} (P : List Token → A → Type 0) (down : Option D) (test : Token → Option B) (tok : B → Token) → ((t : Token) (b : B) → test t ≡ Some b → t ≡ tok b)
    → (f : D → B → List Token → Outcome A) (other : List Token → Outcome A) (more : List Token) (a : A) → P more a
    → ((r : D) → down ≡ Some r → (b : B) → test (tok b) ≡ Some b → (ts : List Token) → Says (λ v. P (tok b ∷ v)) ts (f r b ts)) → ((ts : List Token) → Says P ts (other ts)) → (ts : List Token) → Says P ts (enter down test f other ts)
says_enter P None test tok is f other more a p g h ts = says_deep P test other more a p h ts
says_enter P (Some r) test tok is f other more a p g h ts = says_found P test tok is (f r) other (g r refl) h ts

pub says_map : {A : Type 0} (P Q : List Token → A → Type 0) → ((v : List Token) (a : A) → P v a → Q v a) → (ts : List Token) (o : Outcome A) → Says P ts o → Says Q ts o
says_map P Q f ts (done a rest) s = (s.0, s.1, f s.0 a s.2)
says_map P Q f ts (stop d rest) s = (s.0, s.1, s.2, s.3, f (s.0 ++ s.2) s.3 s.4)

pub said : {A : Type 0} (P : List Token → A → Type 0) (ts : List Token) (o : Outcome A) (a : A) (rest : List Token) → Says P ts o → o ≡ done a rest → (used : List Token) × P used a
said P ts o a rest s e = let z = subst (Says P ts) e s in (z.0, z.2)

-- a token that the test finds has to stand there, and the rest can be completed
pub says_must : {A B : Type 0} (P : List Token → A → Type 0) (test : Token → Option B) (tok : B → Token) → ((t : Token) (b : B) → test t ≡ Some b → t ≡ tok b) → B
    → (f : B → List Token → Outcome A) → ((b : B) (ts : List Token) → Says (λ v. P (tok b ∷ v)) ts (f b ts)) → (ts : List Token) → Says P ts (expect test f ts)
says_must P test tok is b f g ts = let w = finish (λ v. P (tok b ∷ v)) [] (f b []) (g b []) in
    says_next P test tok is f refuse g (says_stop P false (tok b ∷ w.0) w.1 w.2) ts

pub says_word : {A : Type 0} (P : List Token → A → Type 0) (w : Keyword) (f : Spot → List Token → Outcome A) (other : List Token → Outcome A)
    → ((p : Spot) (ts : List Token) → Says (λ v. P (word w p ∷ v)) ts (f p ts)) → ((ts : List Token) → Says P ts (other ts)) → (ts : List Token) → Says P ts (next (word_in w) f other ts)
says_word P w f other g h = says_next P (word_in w) (word w) (word_is w) f other g h

pub says_peek : {A B : Type 0} (P : List Token → A → Type 0) (test : Token → Option B) (f other : List Token → Outcome A)
    → ((ts : List Token) → Says P ts (f ts)) → ((ts : List Token) → Says P ts (other ts)) → (ts : List Token) → Says P ts (peek test f other ts)
says_peek P test f other g h [] = h []
says_peek {A} {B} P test f other g h (t ∷ ts) = go (test t)
  where
    go : (o : Option B) → Says P (t ∷ ts) (on_option o (λ b. f (t ∷ ts)) (other (t ∷ ts)))
    go (Some b) = g (t ∷ ts)
    go None = h (t ∷ ts)

pub says_descend : {A B D : Type 0} (P : List Token → A → Type 0) (down : Option D) (test : Token → Option B) (f : D → List Token → Outcome A) (other : List Token → Outcome A) (more : List Token) (a : A) → P more a
    → ((r : D) → down ≡ Some r → (ts : List Token) → Says P ts (f r ts)) → ((ts : List Token) → Says P ts (other ts)) → (ts : List Token) → Says P ts (descend down test f other ts)
says_descend P None test f other more a p g h = says_deep P test other more a p h
says_descend P (Some r) test f other more a p g h = says_peek P test (f r) other (g r refl) h
