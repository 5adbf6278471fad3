-- A certificate that was read has no more items than its text has bytes.
use Rattle.std.proofs.Common.{◌≡◌, ap, arith, ℕ, suc, ◌+◌, ◌≤◌, ◌==◌, Bool, true, false, Option, Some, None, List, [], ◌∷◌, ◌++◌, length, length-append, Result, Ok, Err}
use Rattle.std.specs.Prelude.{if◌then◌else◌, IfOk}
use Rattle.std.proofs.lemmas.List.{length-map}
use Rattle.cdc_base.specs.declared.fault.Fault.{Fault}
use Rattle.cdc_base.specs.declared.fault.Stop.{Stop}
use Rattle.cdc_base.specs.declared.signal.Signal.{Signal}
use Rattle.clock_constraints.specs.Refusals.{Text, Gives}
use Rattle.cert_text.specs.declared.certificate.Certificate.{Certificate}
use Rattle.cert_text.specs.declared.certificate.Entry.{Entry}
use Rattle.cert_text.specs.declared.certificate.Entry.TheVariants as entry
use Rattle.cert_text.specs.Read.{at_end, behind_line, certificate_in, empty, entry_read, is_end, is_head, kind_of, line_in, lines_read, ring_places, text_read, with_entry, broken_line}
use Rattle.cert_text.specs.Texts.{entries_of}
use Rattle.cert_text.specs.Words.{lines_of, onto_line}

-- ---- lines

onto_counts : (b : ℕ) (ls : List (Option Text)) → length (onto_line b ls) ≤ suc (length ls)
onto_counts b [] = omega arith
onto_counts b (None ∷ ls) = omega arith
onto_counts b (Some l ∷ ls) = omega arith

-- a text has no more lines than bytes
lines_count : (t : Text) → length (lines_of t) ≤ length t
lines_count [] = omega arith
lines_count (b ∷ bs) = go (b == 10) (lines_count bs)
  where
    go : (v : Bool) → length (lines_of bs) ≤ length bs → length (if v then Some [] ∷ lines_of bs else onto_line b (lines_of bs)) ≤ suc (length bs)
    go true h = omega arith
    go false h = omega (arith, onto_counts b (lines_of bs))

-- ---- items

count : (c : Certificate) → length (entries_of c) ≡ length c.syncs + (length c.grays + (length c.rings + (length c.loads + length c.fifos)))
count c = simp (length-append, length-map)

one_more : {A : Type 0} (xs : List A) (x : A) → length (xs ++ x ∷ []) ≡ length xs + 1
one_more xs x = simp length-append

-- a line adds an item at most
added : (c : Certificate) (e : Entry) → length (entries_of (with_entry c e)) ≤ length (entries_of c) + 1
added c (entry.Sync s) = omega (arith, count c, count (with_entry c (entry.Sync s)), one_more c.syncs s)
added c (entry.Gray g) = omega (arith, count c, count (with_entry c (entry.Gray g)), one_more c.grays g)
added c (entry.Ring r) = omega (arith, count c, count (with_entry c (entry.Ring r)), one_more c.rings r)
added c (entry.Load l) = omega (arith, count c, count (with_entry c (entry.Load l)), one_more c.loads l)
added c (entry.Fifo p) = omega (arith, count c, count (with_entry c (entry.Fifo p)), one_more c.fifos p)
added c entry.End = omega arith

ended : (n : ℕ) (c : Certificate) (ls : List (Option Text)) (r : Certificate) → at_end n c ls ≡ Ok r → c ≡ r
ended n c [] r h = cc
ended n c (l ∷ ls) r h = cc

module _ (signals : List Signal) (places : List ℕ) where
  lines_add : (kind n : ℕ) (c : Certificate) (ls : List (Option Text)) (r : Certificate) → lines_read signals places kind n c ls ≡ Ok r
      → length (entries_of r) ≤ length (entries_of c) + length ls
  lines_add kind n c [] r h = cc
  lines_add kind n c (l ∷ ls) r h = go (λ e k. lines_add (kind_of e) (n + 1) (with_entry c e) ls r k) (entry_read kind n (line_in signals places l)) h
    where
      on : ((e : Entry) → lines_read signals places (kind_of e) (n + 1) (with_entry c e) ls ≡ Ok r → length (entries_of r) ≤ length (entries_of (with_entry c e)) + length ls)
          → (e : Entry) (v : Bool) → (if v then at_end (n + 1) c ls else lines_read signals places (kind_of e) (n + 1) (with_entry c e) ls) ≡ Ok r
          → length (entries_of r) ≤ length (entries_of c) + suc (length ls)
      on more e true k = let same = ap (λ (x : Certificate). length (entries_of x)) (ended (n + 1) c ls r k) in omega arith
      on more e false k = omega (arith, added c e, more e k)

      go : ((e : Entry) → lines_read signals places (kind_of e) (n + 1) (with_entry c e) ls ≡ Ok r → length (entries_of r) ≤ length (entries_of (with_entry c e)) + length ls)
          → (o : Result Entry Fault) → behind_line o (at_end (n + 1) c ls) (λ e. lines_read signals places (kind_of e) (n + 1) (with_entry c e) ls) ≡ Ok r
          → length (entries_of r) ≤ length (entries_of c) + suc (length ls)
      go more (Err f) k = cc
      go more (Ok e) k = on more e (is_end e) k

  text_adds : (ls : List (Option Text)) (r : Certificate) → text_read signals places ls ≡ Ok r → length (entries_of r) ≤ length ls
  text_adds [] r h = cc
  text_adds (l ∷ ls) r h = go (is_head l) h
    where
      go : (v : Bool) → (if v then lines_read signals places 0 2 empty ls else Err (broken_line 1)) ≡ Ok r → length (entries_of r) ≤ suc (length ls)
      go true k = omega (arith, lines_add 0 2 empty ls r k)
      go false k = cc

pub few_items : (signals : List Signal) (t : Text) (c : Certificate) → certificate_in signals t ≡ Ok c → length (entries_of c) ≤ length t
few_items signals t c h = omega (arith, lines_count t, text_adds signals (ring_places (lines_of t)) (lines_of t) c h)

-- the same of what was read
pub few_read : (r : Result Certificate Stop) (signals : List Signal) (t : Text) (P : Type 0) → (P → Gives r (certificate_in signals t)) → IfOk r (λ c. P → length (entries_of c) ≤ length t)
few_read (Ok c) signals t P h = λ p. few_items signals t c (h p)
few_read (Err e) signals t P h = tt
