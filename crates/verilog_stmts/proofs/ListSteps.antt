-- Lists of a reader, as the parser's loops read them.
use Rattle.std.proofs.Common.{◌≡◌, suc, List, [], ◌∷◌, ◌++◌, map, length, Option, refl, sym, ap, ◌∙◌, append_assoc, append-nil, arith}
use Rattle.verilog_exprs.specs.declared.halt.Halt.{Halt}
use Rattle.verilog_exprs.specs.Halts.{HaltsAs}
use Rattle.verilog_exprs.specs.Next.{Takes, Lacks}
use Rattle.verilog_exprs.proofs.Steps.{halts_then, halts_by, then_done, next_takes, next_lacks, Listing, listing_none, listing_more, listing_halts, listing_end, many_turns}
use Rattle.verilog_lex.specs.declared.token.Token.{Token}
use Rattle.verilog_reading.specs.Outcome.{Outcome, done, stop, then_read}
use Rattle.verilog_reading.specs.Lists.{more, many}
use Rattle.verilog_reading.specs.Laws.{Local}
use Rattle.verilog_reading.proofs.Local.{Eats, row, row_end}

pub map_push : {A B : Type 0} (f : A → B) (xs : List A) (x : A) → map f (xs ++ x ∷ []) ≡ map f xs ++ f x ∷ []
map_push f [] x = refl
map_push f (y ∷ ys) x = ap (λ z. f y ∷ z) (map_push f ys x)

-- `x { , x }`
abbrev pub several_at : {A B : Type 0} → (Token → Option B) → (List Token → Outcome A) → List Token → Outcome (List A)
several_at test item ts = then_read (item ts) (λ a rest. then_read (more test item rest) (λ bs. done (a ∷ bs)))

abbrev rows_before : {A B : Type 0} → List A → List A × B → List Token → Outcome (List A × B)
rows_before front rows = done (front ++ rows.0, rows.1)

join_rows : {A B : Type 0} (o : Outcome (List A × B)) (front : List A) (a : A)
    → then_read (then_read o (λ rows. done (a ∷ rows.0, rows.1))) (rows_before front) ≡ then_read o (rows_before (front ++ a ∷ []))
join_rows (done rows rest) front a = ap (λ x. done (x, rows.1) rest) (sym (append_assoc front (a ∷ []) rows.0))
join_rows (stop d rest) front a = refl

no_rows : {A B : Type 0} (o : Outcome (List A × B)) → then_read o (rows_before []) ≡ o
no_rows (done rows rest) = refl
no_rows (stop d rest) = refl

-- a list behind its first entry, where the entries are trees of what the parser holds
module _ {X A B : Type 0} (f : X → A) (test : Token → Option B) (item : List Token → Outcome A) where
  pub record Several (whole : Outcome (List A)) (xs : List X) (rest : List Token) : Type 0 where
    pub first : A
    pub others : List A
    pub start : List Token
    pub whole_is : whole ≡ then_read (more test item start) (λ bs. done (first ∷ bs))
    pub all : map f xs ≡ first ∷ others
    pub lists : Listing test item (more test item start) others rest

  pub several_first_halts : (ts : List Token) (h : Halt) → HaltsAs (item ts) h → HaltsAs (several_at test item ts) h
  several_first_halts ts h x = halts_then (item ts) (λ a rest. then_read (more test item rest) (λ bs. done (a ∷ bs))) h x

  pub several_first : (ts : List Token) (x : X) (xs : List X) (rest : List Token) → item ts ≡ done (f x) rest → xs ≡ x ∷ [] → Several (several_at test item ts) xs rest
  several_first ts x xs rest e l = record {
    first = f x;
    others = [];
    start = rest;
    whole_is = then_done (item ts) (λ a rest. then_read (more test item rest) (λ bs. done (a ∷ bs))) (f x) rest e;
    all = ap (map f) l;
    lists = listing_none test item rest;
  }

  pub several_more : Local item → (whole : Outcome (List A)) (xs ys : List X) (b : B) (ts after : List Token) (x : X) (rest : List Token) → Several whole xs ts → Takes test b ts after → item after ≡ done (f x) rest
      → ys ≡ xs ++ x ∷ [] → Several whole ys rest
  several_more l whole xs ys b ts after x rest g w e q = record {
    first = g.first;
    others = g.others ++ f x ∷ [];
    start = g.start;
    whole_is = g.whole_is;
    all = ap (map f) q ∙ map_push f xs x ∙ ap (λ z. z ++ f x ∷ []) g.all;
    lists = listing_more test item l (more test item g.start) g.others b ts after (f x) rest g.lists w e;
  }

  pub several_halts : (whole : Outcome (List A)) (xs : List X) (b : B) (ts after : List Token) (h : Halt) → Several whole xs ts → Takes test b ts after → HaltsAs (item after) h → HaltsAs whole h
  several_halts whole xs b ts after h g w x = halts_by whole (then_read (more test item g.start) (λ bs. done (g.first ∷ bs))) h g.whole_is
      (halts_then (more test item g.start) (λ bs. done (g.first ∷ bs)) h (listing_halts test item (more test item g.start) g.others b ts after h g.lists w x))

  pub several_end : (whole : Outcome (List A)) (xs : List X) (ts : List Token) → Several whole xs ts → Lacks test ts → whole ≡ done (map f xs) ts
  several_end whole xs ts g w = g.whole_is
      ∙ then_done (more test item g.start) (λ bs. done (g.first ∷ bs)) g.others ts (listing_end test item (more test item g.start) g.others ts g.lists w) ∙ ap (λ x. done x ts) (sym g.all)

-- entries up to a token that closes them, which are put behind those of a base
module _ {X A B : Type 0} (f : X → A) (close : Token → Option B) (item : List Token → Outcome A) where
  pub record Rows (whole : Outcome (List A × B)) (base : List A) (xs : List X) (rest : List Token) : Type 0 where
    pub rows : List A
    pub all : map f xs ≡ base ++ rows
    pub goes : whole ≡ then_read (many close item rest) (rows_before rows)

  pub rows_behind : (xs : List X) (ts : List Token) → Rows (many close item ts) (map f xs) xs ts
  rows_behind xs ts = record { rows = []; all = sym (append-nil (map f xs)); goes = sym (no_rows (many close item ts)) }

  pub rows_none : (xs : List X) (ts : List Token) → xs ≡ [] → Rows (many close item ts) [] xs ts
  rows_none xs ts e = record { rows = []; all = ap (map f) e; goes = sym (no_rows (many close item ts)) }

  rows_enter : (ts : List Token) → Lacks close ts → many close item ts ≡ then_read (item ts) (row_end close item (length ts))
  rows_enter ts w = next_lacks close (λ b. done ([], b)) (row close item (length ts)) ts w

  pub rows_more : Eats item → (whole : Outcome (List A × B)) (base : List A) (xs ys : List X) (ts : List Token) (x : X) (rest : List Token) → Rows whole base xs ts → Lacks close ts → item ts ≡ done (f x) rest
      → ys ≡ xs ++ x ∷ [] → Rows whole base ys rest
  rows_more eats whole base xs ys ts x rest g w e q =
      let o = eats ts (f x) rest e in
      record {
        rows = g.rows ++ f x ∷ [];
        all = ap (map f) q ∙ map_push f xs x ∙ ap (λ z. z ++ f x ∷ []) g.all ∙ append_assoc base g.rows (f x ∷ []);
        goes = g.goes ∙ ap (λ z. then_read z (rows_before g.rows)) (rows_enter ts w ∙ then_done (item ts) (row_end close item (length ts)) (f x) rest e
            ∙ ap (λ z. then_read z (λ rows. done (f x ∷ rows.0, rows.1))) (many_turns close item eats (length ts) (suc (length rest)) rest (omega (arith, o)) (omega arith)))
            ∙ join_rows (many close item rest) g.rows (f x);
      }

  pub rows_halts : (whole : Outcome (List A × B)) (base : List A) (xs : List X) (ts : List Token) (h : Halt) → Rows whole base xs ts → Lacks close ts → HaltsAs (item ts) h → HaltsAs whole h
  rows_halts whole base xs ts h g w x = halts_by whole (then_read (many close item ts) (rows_before g.rows)) h g.goes
      (halts_then (many close item ts) (rows_before g.rows) h (halts_by (many close item ts) (then_read (item ts) (row_end close item (length ts))) h (rows_enter ts w)
      (halts_then (item ts) (row_end close item (length ts)) h x)))

  pub rows_end : (whole : Outcome (List A × B)) (base : List A) (xs : List X) (b : B) (ts rest : List Token) → (g : Rows whole base xs ts) → Takes close b ts rest → whole ≡ done (g.rows, b) rest
  rows_end whole base xs b ts rest g w = g.goes ∙ ap (λ z. then_read z (rows_before g.rows)) (next_takes close (λ b. done ([], b)) (row close item (length ts)) b ts rest w)
      ∙ ap (λ z. done (z, b) rest) (append-nil g.rows)
