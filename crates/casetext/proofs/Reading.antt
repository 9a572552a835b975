-- Steps of reading, line by line, and of filling a list.
use Rattle.std.proofs.Common.{◌≡◌, ℕ, ◌+◌, List, [], ◌∷◌, Some, None, Ok, Option, Result, unwrap_or, sym, refl, ap, ◌∙◌, Bor}
use Rattle.std.specs.Option.{option_map}
use Rattle.casetext.specs.declared.fault.TextFault.{TextFault}
use Rattle.casetext.specs.Text.{lines}
use Rattle.casetext.specs.Lines.{Said}
use Rattle.casetext.specs.Case.{read_line, read_lines}

-- the first line, and then the others
pub next_line : (n : ℕ) (s : Said) (bs line rest : List ℕ) (r : Result Said TextFault) → lines bs ≡ line ∷ lines rest → r ≡ read_line (n + 1) s line → read_lines n (Ok s) (lines bs) ≡ read_lines (n + 1) r (lines rest)
next_line n s bs line rest r parts told = ap (read_lines n (Ok s)) parts ∙ ap (λ t. read_lines (n + 1) t (lines rest)) (sym told)

pub now_or : (o : Option (Bor (List ℕ))) (d : Bor (List ℕ)) → d.now ≡ [] → (unwrap_or o d).now ≡ unwrap_or (option_map (λ x. x.now) o) []
now_or None d e = e
now_or (Some x) d e = refl
