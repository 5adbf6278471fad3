-- What was written reads as the certificate.
use Rattle.std.proofs.Common.{◌≡◌, ◌∙◌, refl, sym, ap, ap₂, arith, ℕ, suc, ◌+◌, Bool, true, false, Option, Some, List, [], ◌∷◌, ◌++◌, append_assoc, length, map, Contains, Ok, Err, Result}
use Rattle.std.specs.Prelude.{codes, if◌then◌else◌, nat_le}
use Rattle.std.proofs.lemmas.Bool.Decides.{nat_tests}
use Rattle.std.proofs.lemmas.List.{append-nil}
use Rattle.cdc_base.specs.declared.fault.Fault.{Fault}
use Rattle.cdc_base.specs.declared.signal.Signal.{Signal}
use Rattle.clock_constraints.specs.Refusals.{Text}
use Rattle.cdc_model.specs.declared.scheme.GrayReg.{GrayReg}
use Rattle.cdc_model.specs.declared.scheme.Load.{Load}
use Rattle.cdc_model.specs.declared.scheme.Ring.{Ring}
use Rattle.cdc_model.specs.declared.scheme.Sync.{Sync}
use Rattle.fifo_scheme.specs.declared.found.FifoPair.{FifoPair}
use Rattle.cdc_model.proofs.Ascending.{here, later}
use Rattle.cert_text.specs.declared.certificate.Certificate.{Certificate}
use Rattle.cert_text.specs.declared.certificate.Entry.{Entry}
use Rattle.cert_text.specs.declared.certificate.Entry.TheVariants as entry
use Rattle.cert_text.specs.Read.{at_end, behind_line, certificate_in, empty, entry_read, is_end, kind_of, lines_read, ring_place, ring_places, text_read, with_entry, broken_line}
use Rattle.cert_text.specs.Texts.{certificate_lines, certificate_text, head_line, fifo_line, load_line, ring_line, sync_line}
use Rattle.report.specs.VerdictText.{ended as ended_text, gray_line}
use Rattle.cert_text.specs.Words.{lines_of}
use Rattle.cert_text.specs.Written.{CanWrite, plain, plain_load}
use Rattle.cert_text.proofs.Feeds.{HasNoEnd, HaveNoEnd, lines_ended}
use Rattle.cert_text.proofs.Entries.{entry_lines}
use Rattle.cert_text.proofs.Worded.{IsLineOf, sync_is, gray_is, ring_is, ring_has, load_is, fifo_is, end_is}

-- ---- items one behind the other

itself : (k : ℕ) → nat_le k k ≡ true
itself k = grind (arith, nat_tests)

head_has_no_end : HasNoEnd head_line
head_has_no_end = (refl, (refl, (refl, (refl, (refl, (refl, (refl, (refl, (refl, (refl, (refl, (refl, (refl, (refl, (refl, (refl, (refl, tt)))))))))))))))))

abbrev with_all : Certificate → List Entry → Certificate
with_all c [] = c
with_all c (e ∷ es) = with_all (with_entry c e) es

all_syncs : (c : Certificate) (xs : List Sync) → with_all c (map entry.Sync xs) ≡ record c { syncs = c.syncs ++ xs }
all_syncs c [] = ap (λ (ys : List Sync). let r : Certificate = record c { syncs = ys } in r) (sym (append-nil c.syncs))
all_syncs c (x ∷ xs) = all_syncs (with_entry c (entry.Sync x)) xs
    ∙ ap (λ (ys : List Sync). let r : Certificate = record c { syncs = ys } in r) (let e : (c.syncs ++ x ∷ []) ++ xs ≡ c.syncs ++ x ∷ xs = simp append_assoc in e)

all_grays : (c : Certificate) (xs : List GrayReg) → with_all c (map entry.Gray xs) ≡ record c { grays = c.grays ++ xs }
all_grays c [] = ap (λ (ys : List GrayReg). let r : Certificate = record c { grays = ys } in r) (sym (append-nil c.grays))
all_grays c (x ∷ xs) = all_grays (with_entry c (entry.Gray x)) xs
    ∙ ap (λ (ys : List GrayReg). let r : Certificate = record c { grays = ys } in r) (let e : (c.grays ++ x ∷ []) ++ xs ≡ c.grays ++ x ∷ xs = simp append_assoc in e)

all_rings : (c : Certificate) (xs : List Ring) → with_all c (map entry.Ring xs) ≡ record c { rings = c.rings ++ xs }
all_rings c [] = ap (λ (ys : List Ring). let r : Certificate = record c { rings = ys } in r) (sym (append-nil c.rings))
all_rings c (x ∷ xs) = all_rings (with_entry c (entry.Ring x)) xs
    ∙ ap (λ (ys : List Ring). let r : Certificate = record c { rings = ys } in r) (let e : (c.rings ++ x ∷ []) ++ xs ≡ c.rings ++ x ∷ xs = simp append_assoc in e)

all_loads : (c : Certificate) (xs : List Load) → with_all c (map (λ (l : Load). entry.Load (plain_load l)) xs) ≡ record c { loads = c.loads ++ map plain_load xs }
all_loads c [] = ap (λ (ys : List Load). let r : Certificate = record c { loads = ys } in r) (sym (append-nil c.loads))
all_loads c (x ∷ xs) = all_loads (with_entry c (entry.Load (plain_load x))) xs
    ∙ ap (λ (ys : List Load). let r : Certificate = record c { loads = ys } in r) (let e : (c.loads ++ plain_load x ∷ []) ++ map plain_load xs ≡ c.loads ++ plain_load x ∷ map plain_load xs = simp append_assoc in e)

all_fifos : (c : Certificate) (xs : List FifoPair) → with_all c (map entry.Fifo xs) ≡ record c { fifos = c.fifos ++ xs }
all_fifos c [] = ap (λ (ys : List FifoPair). let r : Certificate = record c { fifos = ys } in r) (sym (append-nil c.fifos))
all_fifos c (x ∷ xs) = all_fifos (with_entry c (entry.Fifo x)) xs
    ∙ ap (λ (ys : List FifoPair). let r : Certificate = record c { fifos = ys } in r) (let e : (c.fifos ++ x ∷ []) ++ xs ≡ c.fifos ++ x ∷ xs = simp append_assoc in e)

-- ---- lines of one kind

module _ {A : Type 0} (line : A → Text) (make : A → Entry) where
  no_ends : (signals : List Signal) (places : List ℕ) (xs : List A) (rest : List Text) → ((x : A) → Contains xs x → IsLineOf signals places (line x) (make x)) → HaveNoEnd rest
      → HaveNoEnd (map line xs ++ rest)
  no_ends signals places [] rest are h = h
  no_ends signals places (x ∷ xs) rest are h = ((are x (here x xs)).no_end, no_ends signals places xs rest (λ y i. are y (later x xs y i)) h)

  -- none of the lines begins a ring
  no_places : ((x : A) → ring_place (Some (line x)) ≡ []) → (xs : List A) (rest : List Text) → ring_places (map Some (map line xs ++ rest)) ≡ ring_places (map Some rest)
  no_places none [] rest = refl
  no_places none (x ∷ xs) rest = ap (λ (ns : List ℕ). ns ++ ring_places (map Some (map line xs ++ rest))) (none x) ∙ no_places none xs rest

  module _ (signals : List Signal) (places : List ℕ) (k : ℕ) (kind_is : (x : A) → kind_of (make x) ≡ k) (no_end : (x : A) → is_end (make x) ≡ false) where
    one : (kind n : ℕ) (c : Certificate) (x : A) (rest : List (Option Text)) → IsLineOf signals places (line x) (make x) → nat_le kind k ≡ true
        → lines_read signals places kind n c (Some (line x) ∷ rest) ≡ lines_read signals places k (n + 1) (with_entry c (make x)) rest
    one kind n c x rest is le =
        ap (λ (o : Option Entry). behind_line (entry_read kind n o) (at_end (n + 1) c rest) next) is.read
        ∙ (ap (λ (v : Bool). behind_line (if v then Ok (make x) else Err (broken_line n)) (at_end (n + 1) c rest) next) (ap (nat_le kind) (kind_is x) ∙ le)
        ∙ (ap (λ (v : Bool). if v then at_end (n + 1) c rest else next (make x)) (no_end x)
        ∙ ap (λ (j : ℕ). lines_read signals places j (n + 1) (with_entry c (make x)) rest) (kind_is x)))
      where
        next : Entry → Result Certificate Fault
        next e = lines_read signals places (kind_of e) (n + 1) (with_entry c e) rest

    -- they are read one after the other, and what is read behind them goes on from the certificate with them
    block : (xs : List A) (rest : List Text) (all : Result Certificate Fault) (kind n : ℕ) (c : Certificate) → ((x : A) → Contains xs x → IsLineOf signals places (line x) (make x))
        → nat_le kind k ≡ true → ((j m : ℕ) → nat_le j k ≡ true → lines_read signals places j m (with_all c (map make xs)) (map Some rest) ≡ all)
        → lines_read signals places kind n c (map Some (map line xs ++ rest)) ≡ all
    block [] rest all kind n c are le next = next kind n le
    block (x ∷ xs) rest all kind n c are le next =
        one kind n c x (map Some (map line xs ++ rest)) (are x (here x xs)) le
        ∙ block xs rest all k (n + 1) (with_entry c (make x)) (λ y i. are y (later x xs y i)) (itself k) next

module _ (signals : List Signal) where
  has_places : (rs : List Ring) (rest : List Text) → ((r : Ring) → Contains rs r → ring_place (Some (ring_line signals r)) ≡ length r.bits ∷ [])
      → ring_places (map Some (map (ring_line signals) rs ++ rest)) ≡ map (λ (r : Ring). length r.bits) rs ++ ring_places (map Some rest)
  has_places [] rest have = refl
  has_places (r ∷ rs) rest have = ap₂ (λ (ns ms : List ℕ). ns ++ ms) (have r (here r rs)) (has_places rs rest (λ q i. have q (later r rs q i)))

-- ---- all lines

module _ (signals : List Signal) (c : Certificate) (can : CanWrite signals c) where
  abbrev places : List ℕ
  places = map (λ (r : Ring). length r.bits) c.rings

  abbrev last : List Text
  last = codes "end" ∷ []

  abbrev by_fifos : List Text
  by_fifos = map (fifo_line signals) c.fifos ++ last

  abbrev by_loads : List Text
  by_loads = map (load_line signals) c.loads ++ by_fifos

  abbrev by_rings : List Text
  by_rings = map (ring_line signals) c.rings ++ by_loads

  abbrev by_grays : List Text
  by_grays = map (gray_line signals) c.grays ++ by_rings

  abbrev by_syncs : List Text
  by_syncs = map (sync_line signals) c.syncs ++ by_grays

  abbrev of_load : Load → Entry
  of_load l = entry.Load (plain_load l)

  syncs : (s : Sync) → Contains c.syncs s → IsLineOf signals places (sync_line signals s) (entry.Sync s)
  syncs s i = sync_is signals places s (can.syncs s i)

  grays : (g : GrayReg) → Contains c.grays g → IsLineOf signals places (gray_line signals g) (entry.Gray g)
  grays g i = gray_is signals places g (can.grays g i)

  rings : (r : Ring) → Contains c.rings r → IsLineOf signals places (ring_line signals r) (entry.Ring r)
  rings r i = ring_is signals r (can.rings r i) places

  loads : (l : Load) → Contains c.loads l → IsLineOf signals places (load_line signals l) (of_load l)
  loads l i = load_is signals c.rings can.few l (can.loads l i)

  fifos : (p : FifoPair) → Contains c.fifos p → IsLineOf signals places (fifo_line signals p) (entry.Fifo p)
  fifos p i = fifo_is signals places p (can.fifos p i)

  lines_are : certificate_lines signals c ≡ head_line ∷ by_syncs
  lines_are = ap (λ (ls : List Text). head_line ∷ (ls ++ last)) (entry_lines signals c)
      ∙ ap (λ (ls : List Text). head_line ∷ ls) (let e : (map (sync_line signals) c.syncs ++ (map (gray_line signals) c.grays ++ (map (ring_line signals) c.rings
      ++ (map (load_line signals) c.loads ++ map (fifo_line signals) c.fifos)))) ++ last ≡ by_syncs = simp append_assoc in e)

  none_ends : HaveNoEnd (head_line ∷ by_syncs)
  none_ends = (
    head_has_no_end,
    no_ends (sync_line signals) entry.Sync signals places c.syncs by_grays syncs
        (no_ends (gray_line signals) entry.Gray signals places c.grays by_rings grays
        (no_ends (ring_line signals) entry.Ring signals places c.rings by_loads rings
        (no_ends (load_line signals) of_load signals places c.loads by_fifos loads
        (no_ends (fifo_line signals) entry.Fifo signals places c.fifos last fifos ((end_is signals places).no_end, tt))))),
  )

  places_are : ring_places (map Some (head_line ∷ by_syncs)) ≡ places
  places_are =
      no_places (sync_line signals) entry.Sync (λ s. refl) c.syncs by_grays
      ∙ (no_places (gray_line signals) entry.Gray (λ g. refl) c.grays by_rings
      ∙ (has_places signals c.rings by_loads (λ r i. ring_has signals r (can.rings r i))
      ∙ (ap (λ (ns : List ℕ). places ++ ns) (no_places (load_line signals) of_load (λ l. refl) c.loads by_fifos ∙ no_places (fifo_line signals) entry.Fifo (λ p. refl) c.fifos last)
      ∙ append-nil places)))

  -- the certificate that they make, kind by kind
  made : with_all (with_all (with_all (with_all (with_all empty (map entry.Sync c.syncs)) (map entry.Gray c.grays)) (map entry.Ring c.rings)) (map of_load c.loads)) (map entry.Fifo c.fifos) ≡ plain c
  made =
      ap (λ (x : Certificate). with_all (with_all (with_all (with_all x (map entry.Gray c.grays)) (map entry.Ring c.rings)) (map of_load c.loads)) (map entry.Fifo c.fifos)) (all_syncs empty c.syncs)
      ∙ (ap (λ (x : Certificate). with_all (with_all (with_all x (map entry.Ring c.rings)) (map of_load c.loads)) (map entry.Fifo c.fifos)) (all_grays (record empty { syncs = c.syncs }) c.grays)
      ∙ (ap (λ (x : Certificate). with_all (with_all x (map of_load c.loads)) (map entry.Fifo c.fifos)) (all_rings (record empty { syncs = c.syncs; grays = c.grays }) c.rings)
      ∙ (ap (λ (x : Certificate). with_all x (map entry.Fifo c.fifos)) (all_loads (record empty { syncs = c.syncs; grays = c.grays; rings = c.rings }) c.loads)
      ∙ all_fifos (record empty { syncs = c.syncs; grays = c.grays; rings = c.rings; loads = map plain_load c.loads }) c.fifos)))

  later_kind : (j k : ℕ) → nat_le j k ≡ true → nat_le j (suc k) ≡ true
  later_kind j k h = grind (arith, nat_tests)

  ended : (j n : ℕ) → nat_le j 4 ≡ true → (x : Certificate) → x ≡ plain c → lines_read signals places j n x (map Some last) ≡ Ok (plain c)
  ended j n le x is =
      ap (λ (o : Option Entry). behind_line (entry_read j n o) (at_end (n + 1) x []) (λ e. lines_read signals places (kind_of e) (n + 1) (with_entry x e) [])) (end_is signals places).read
      ∙ (ap (λ (v : Bool). behind_line (if v then Ok entry.End else Err (broken_line n)) (at_end (n + 1) x []) (λ e. lines_read signals places (kind_of e) (n + 1) (with_entry x e) [])) (later_kind j 4 le)
      ∙ ap Ok is)

  all_read : lines_read signals places 0 2 empty (map Some by_syncs) ≡ Ok (plain c)
  all_read =
      block (sync_line signals) entry.Sync signals places 0 (λ s. refl) (λ s. refl) c.syncs by_grays (Ok (plain c)) 0 2 empty syncs refl (λ j n le.
      block (gray_line signals) entry.Gray signals places 1 (λ s. refl) (λ s. refl) c.grays by_rings (Ok (plain c)) j n _ grays (later_kind j 0 le) (λ i m lf.
      block (ring_line signals) entry.Ring signals places 2 (λ s. refl) (λ s. refl) c.rings by_loads (Ok (plain c)) i m _ rings (later_kind i 1 lf) (λ h o lg.
      block (load_line signals) of_load signals places 3 (λ s. refl) (λ s. refl) c.loads by_fifos (Ok (plain c)) h o _ loads (later_kind h 2 lg) (λ g p lh.
      block (fifo_line signals) entry.Fifo signals places 4 (λ s. refl) (λ s. refl) c.fifos last (Ok (plain c)) g p _ fifos (later_kind g 3 lh) (λ f q li.
      ended f q li _ made)))))

  pub written_is_read : certificate_in signals (certificate_text signals c) ≡ Ok (plain c)
  written_is_read =
      let lines = ap lines_of (ap ended_text lines_are) ∙ lines_ended (head_line ∷ by_syncs) none_ends in
      ap (λ (ls : List (Option Text)). text_read signals (ring_places ls) ls) lines
      ∙ (ap (λ (ns : List ℕ). text_read signals ns (map Some (head_line ∷ by_syncs))) places_are ∙ all_read)
