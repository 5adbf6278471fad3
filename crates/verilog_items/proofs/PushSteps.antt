-- Lists with a mark that closes them, whose entries the parser puts behind what it holds.
use Rattle.std.proofs.Common.{false, ◌≡◌, suc, List, [], ◌∷◌, ◌++◌, map, length, Option, refl, sym, ap, ◌∙◌, append_assoc, append-nil, arith}
use Rattle.verilog_exprs.specs.declared.halt.Halt.{Halt}
use Rattle.verilog_exprs.specs.declared.halt.Halt.TheVariants.{Refused}
use Rattle.verilog_exprs.specs.Halts.{HaltsAs}
use Rattle.verilog_exprs.specs.Next.{Takes, Lacks}
use Rattle.verilog_exprs.proofs.Steps.{halts_then, halts_by, then_done, next_takes, expect_halts, more_turns, more_enters, next_lacks}
use Rattle.verilog_lex.specs.declared.token.Token.{Token}
use Rattle.verilog_lex.specs.declared.marks.MarkKind.{MarkKind}
use Rattle.verilog_reading.specs.Lexemes.{Spot, mark_in}
use Rattle.verilog_reading.specs.Outcome.{Outcome, done, stop, then_read, refuse}
use Rattle.verilog_reading.specs.Lists.{more}
use Rattle.verilog_reading.specs.Laws.{Local}
use Rattle.verilog_reading.specs.Reader.{closed}
use Rattle.verilog_reading.specs.ItemReader.{list, list_more}
use Rattle.verilog_reading.proofs.Local.{turn, turn_end, left_over}
use Rattle.verilog_stmts.proofs.ListSteps.{map_push}

pub map_same : {A : Type 0} (xs : List A) → map (λ a. a) xs ≡ xs
map_same [] = refl
map_same (x ∷ xs) = ap (λ z. x ∷ z) (map_same xs)

abbrev closed_behind : {A : Type 0} → MarkKind → List A → List A → List Token → Outcome (List A)
closed_behind m front bs = closed m (front ++ bs)

join_closed : {A : Type 0} (m : MarkKind) (o : Outcome (List A)) (front : List A) (a : A)
    → then_read (then_read o (λ bs. done (a ∷ bs))) (closed_behind m front) ≡ then_read o (closed_behind m (front ++ a ∷ []))
join_closed m (done bs rest) front a = ap (λ x. closed m x rest) (sym (append_assoc front (a ∷ []) bs))
join_closed m (stop d rest) front a = refl

module _ {A B : Type 0} (test : Token → Option B) (m : MarkKind) (first item : List Token → Outcome A) where
  -- `front` is read, and `rest` is left of what the whole reads
  pub record Reached (whole : Outcome (List A)) (front : List A) (rest : List Token) : Type 0 where
    pub goes : whole ≡ then_read (more test item rest) (closed_behind m front)

  pub reached_first_halts : (ts : List Token) (h : Halt) → HaltsAs (first ts) h → HaltsAs (list test m first item ts) h
  reached_first_halts ts h x = halts_then (first ts) (list_more test m item) h x

  pub reached_first : (ts : List Token) (a : A) (rest : List Token) → first ts ≡ done a rest → Reached (list test m first item ts) (a ∷ []) rest
  reached_first ts a rest e = record { goes = then_done (first ts) (list_more test m item) a rest e }

  pub reached_more : Local item → (whole : Outcome (List A)) (front : List A) (b : B) (ts after : List Token) (a : A) (rest : List Token) → Reached whole front ts → Takes test b ts after → item after ≡ done a rest
      → Reached whole (front ++ a ∷ []) rest
  reached_more l whole front b ts after a rest g w e =
      let o = left_over item l after a rest e in
      let z : length ts ≡ suc (length after) = ap length w.is in
      record {
        goes = g.goes ∙ ap (λ x. then_read x (closed_behind m front)) (more_enters test item b ts after w ∙ then_done (item after) (turn_end test item (length ts)) a rest e
            ∙ ap (λ x. then_read x (λ bs. done (a ∷ bs))) (more_turns test item l (length ts) (suc (length rest)) rest (omega (arith, o, z)) (omega arith)))
            ∙ join_closed m (more test item rest) front a;
      }

  pub reached_halts : (whole : Outcome (List A)) (front : List A) (b : B) (ts after : List Token) (h : Halt) → Reached whole front ts → Takes test b ts after → HaltsAs (item after) h → HaltsAs whole h
  reached_halts whole front b ts after h g w i = halts_by whole (then_read (more test item ts) (closed_behind m front)) h g.goes
      (halts_then (more test item ts) (closed_behind m front) h (halts_by (more test item ts) (then_read (item after) (turn_end test item (length ts))) h (more_enters test item b ts after w)
      (halts_then (item after) (turn_end test item (length ts)) h i)))

  reached_close : (whole : Outcome (List A)) (front : List A) (ts : List Token) → Reached whole front ts → Lacks test ts → whole ≡ closed m front ts
  reached_close whole front ts g w = g.goes ∙ ap (λ x. then_read x (closed_behind m front)) (next_lacks test (λ _. turn test item (length ts)) (done []) ts w) ∙ ap (λ x. closed m x ts) (append-nil front)

  pub reached_open : (whole : Outcome (List A)) (front : List A) (ts : List Token) (h : Halt) → Reached whole front ts → Lacks test ts → Lacks (mark_in m) ts → h ≡ Refused false (length ts) → HaltsAs whole h
  reached_open whole front ts h g v w q = halts_by whole (closed m front ts) h (reached_close whole front ts g v) (expect_halts (mark_in m) (λ _. done front) ts h w q)

  pub reached_end : (whole : Outcome (List A)) (front : List A) (ts : List Token) (s : Spot) (rest : List Token) → Reached whole front ts → Lacks test ts → Takes (mark_in m) s ts rest → whole ≡ done front rest
  reached_end whole front ts s rest g v w = reached_close whole front ts g v ∙ next_takes (mark_in m) (λ _. done front) refuse s ts rest w

-- entries that are read, as the parser puts them behind what it holds
module _ {X T A B : Type 0} (f : X → T) (make : A → T) (test : Token → Option B) (m : MarkKind) (first item : List Token → Outcome A) where
  pub record Pushed (whole : Outcome (List A)) (old new : List X) (rest : List Token) : Type 0 where
    pub entries : List A
    pub all : map f new ≡ map f old ++ map make entries
    pub lists : Reached test m first item whole entries rest

  pub pushed_first : (ts : List Token) (a : A) (rest : List Token) (old new : List X) → first ts ≡ done a rest → map f new ≡ map f old ++ make a ∷ [] → Pushed (list test m first item ts) old new rest
  pushed_first ts a rest old new e q = record { entries = a ∷ []; all = q; lists = reached_first test m first item ts a rest e }

  pub pushed_more : Local item → (whole : Outcome (List A)) (old xs ys : List X) (b : B) (ts after : List Token) (a : A) (rest : List Token) → Pushed whole old xs ts → Takes test b ts after → item after ≡ done a rest
      → map f ys ≡ map f xs ++ make a ∷ [] → Pushed whole old ys rest
  pushed_more l whole old xs ys b ts after a rest g w e q = record {
    entries = g.entries ++ a ∷ [];
    all = q ∙ ap (λ z. z ++ make a ∷ []) g.all ∙ append_assoc (map f old) (map make g.entries) (make a ∷ []) ∙ ap (λ z. map f old ++ z) (sym (map_push make g.entries a));
    lists = reached_more test m first item l whole g.entries b ts after a rest g.lists w e;
  }

  pub pushed_halts : (whole : Outcome (List A)) (old xs : List X) (b : B) (ts after : List Token) (h : Halt) → Pushed whole old xs ts → Takes test b ts after → HaltsAs (item after) h → HaltsAs whole h
  pushed_halts whole old xs b ts after h g w x = reached_halts test m first item whole g.entries b ts after h g.lists w x

  pub pushed_open : (whole : Outcome (List A)) (old xs : List X) (ts : List Token) (h : Halt) → Pushed whole old xs ts → Lacks test ts → Lacks (mark_in m) ts → h ≡ Refused false (length ts) → HaltsAs whole h
  pushed_open whole old xs ts h g v w q = reached_open test m first item whole g.entries ts h g.lists v w q

  pub pushed_end : (whole : Outcome (List A)) (old xs : List X) (ts : List Token) (s : Spot) (rest : List Token) → Pushed whole old xs ts → Lacks test ts → Takes (mark_in m) s ts rest
      → (ls : List A) × (whole ≡ done ls rest) × (map f xs ≡ map f old ++ map make ls)
  pushed_end whole old xs ts s rest g v w = (g.entries, reached_end test m first item whole g.entries ts s rest g.lists v w, g.all)
