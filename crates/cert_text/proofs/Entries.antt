-- The lines of a certificate, kind by kind.
use Rattle.std.proofs.Common.{◌≡◌, ◌∙◌, refl, sym, ap, ap₂, List, [], ◌∷◌, ◌++◌, append_assoc, map}
use Rattle.std.specs.Prelude.{codes}
use Rattle.std.proofs.lemmas.List.{map-append}
use Rattle.cdc_base.specs.declared.signal.Signal.{Signal}
use Rattle.report.specs.VerdictText.{gray_line}
use Rattle.clock_constraints.specs.Refusals.{Text}
use Rattle.cert_text.specs.declared.certificate.Certificate.{Certificate}
use Rattle.cert_text.specs.declared.certificate.Entry.{Entry}
use Rattle.cert_text.specs.declared.certificate.Entry.TheVariants as entry
use Rattle.cert_text.specs.Texts.{certificate_lines, entries_of, entry_line, fifo_line, head_line, load_line, ring_line, sync_line}

mapped : {A B : Type 0} (f : A → B) (line : B → Text) (xs : List A) → map line (map f xs) ≡ map (λ x. line (f x)) xs
mapped f line [] = refl
mapped f line (x ∷ xs) = ap (λ ls. line (f x) ∷ ls) (mapped f line xs)

pub entry_lines : (signals : List Signal) (c : Certificate) → map (entry_line signals) (entries_of c)
    ≡ map (sync_line signals) c.syncs ++ (map (gray_line signals) c.grays ++ (map (ring_line signals) c.rings ++ (map (load_line signals) c.loads ++ map (fifo_line signals) c.fifos)))
entry_lines signals c =
    let line : Entry → Text = entry_line signals in
    map-append line (map entry.Sync c.syncs) (map entry.Gray c.grays ++ (map entry.Ring c.rings ++ (map entry.Load c.loads ++ map entry.Fifo c.fifos)))
    ∙ ap₂ (λ xs ys. xs ++ ys) (mapped entry.Sync line c.syncs)
    (map-append line (map entry.Gray c.grays) (map entry.Ring c.rings ++ (map entry.Load c.loads ++ map entry.Fifo c.fifos))
    ∙ ap₂ (λ xs ys. xs ++ ys) (mapped entry.Gray line c.grays)
    (map-append line (map entry.Ring c.rings) (map entry.Load c.loads ++ map entry.Fifo c.fifos)
    ∙ ap₂ (λ xs ys. xs ++ ys) (mapped entry.Ring line c.rings)
    (map-append line (map entry.Load c.loads) (map entry.Fifo c.fifos)
    ∙ ap₂ (λ xs ys. xs ++ ys) (mapped entry.Load line c.loads) (mapped entry.Fifo line c.fifos))))

regroup : (h : Text) (a b c d e f : List Text) → ((((((h ∷ []) ++ a) ++ b) ++ c) ++ d) ++ e) ++ f ≡ h ∷ ((a ++ (b ++ (c ++ (d ++ e)))) ++ f)
regroup h a b c d e f = simp append_assoc

-- the lines as they are written one kind behind the other
pub lines_are : (signals : List Signal) (c : Certificate) → ((((((head_line ∷ []) ++ map (sync_line signals) c.syncs) ++ map (gray_line signals) c.grays) ++ map (ring_line signals) c.rings)
    ++ map (load_line signals) c.loads) ++ map (fifo_line signals) c.fifos) ++ codes "end" ∷ [] ≡ certificate_lines signals c
lines_are signals c =
    regroup head_line (map (sync_line signals) c.syncs) (map (gray_line signals) c.grays) (map (ring_line signals) c.rings) (map (load_line signals) c.loads) (map (fifo_line signals) c.fifos) (codes "end" ∷ [])
    ∙ ap (λ ls. head_line ∷ (ls ++ codes "end" ∷ [])) (sym (entry_lines signals c))
