-- What is read into a room.
use Rattle.std.proofs.Common.{◌≡◌, ℕ, List, IfOk, Ok, Err, vec_items, Result, sym, ◌∙◌}
use Rattle.std.proofs.lemmas.List.{nil_from_length}
use Rattle.casetext.specs.declared.fault.TextFault.{TextFault}
use Rattle.casetext.specs.Case.{nothing, read_text}
use Rattle.casetext.specs.Sound.{Sound}
use Rattle.casetext.proofs.Sounds.{read_sound}
use Rattle.casefile.specs.declared.case.Case.{Case}
use Rattle.casefile.specs.declared.room.Room.{Room}
use Rattle.casefile.specs.Case.{holds, told}
use Rattle.casefile.specs.Draft.{said}

-- a room holds nothing
pub nothing_yet : (r : Room) → said r.draft ≡ nothing
nothing_yet r =
    let d = r.draft in
    let cs = nil_from_length (vec_items d.ceilings.items) (sym d.ceilings.items.ok.0 ∙ r.no_clocks) in
    let ls = nil_from_length (vec_items d.locations.items) (sym d.locations.items.ok.0 ∙ r.no_locations) in
    let es = nil_from_length (vec_items d.edges.items) (sym d.edges.items.ok.0 ∙ r.no_edges) in
    let rs = nil_from_length (vec_items d.rows.items) (sym d.rows.items.ok.0 ∙ r.no_rows) in
    let ks = nil_from_length (vec_items d.ranks.items) (sym d.ranks.items.ok.0 ∙ d.level ∙ r.no_rows) in
    λ j. record { ceilings = cs j; locations = ls j; edges = es j; rows = rs j; ranks = ks j }

-- a case that the text says is sound
pub sound_when : (text : List ℕ) (r : Result Case TextFault) → told r ≡ read_text text → IfOk r (λ c. Sound (holds c))
sound_when text (Ok c) e = read_sound text (holds c) (sym e)
sound_when text (Err f) e = tt
