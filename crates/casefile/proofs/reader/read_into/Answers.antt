use Rattle.std.proofs.Common.{Ok, sym, ap, ◌∙◌, arith}
use Rattle.casetext.specs.Text.{lines}
use Rattle.casetext.specs.Case.{read_lines}
use Rattle.casetext.proofs.Sounds.{read_said}
use Rattle.casefile.specs.Draft.{said}
use Rattle.casefile.proofs.Readings.{nothing_yet, sound_when}
use Rattle.casefile.proofs.reader.read_into.Goals as goal

pub returns : goal.returns
returns c =
    let s = said c.read_lines.new.self in
    let from = ap (λ s. read_lines 0 (Ok s) (lines c.args.text.now)) (nothing_yet c.args.room) in
    let value = c.finish.ensures ∙ sym (read_said c.args.text.now s (omega arith) (sym (c.in_ok-read_lines.ensures ∙ from))) in
    record { value = value; sound = sound_when c.args.text.now c.finish.result value }
