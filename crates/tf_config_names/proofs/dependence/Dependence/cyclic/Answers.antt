use Rattle.std.proofs.Common.{◌≡◌, length, map, string_bytes, arith}
use Rattle.tf_config_names.proofs.Rings.{noted-more, noted-cyclic}
use Rattle.tf_config_names.specs.Table.{declaration_of, names_in}
use Rattle.tf_config_names.proofs.dependence.Dependence.cyclic.Goals as goal

pub loop-place-preserved : goal.loop-place-preserved
loop-place-preserved c =
    let l = c.loop-place in
    noted-more (names_in c.args.names.now) c.args.self.now l.place (map string_bytes l.found.keys) (map string_bytes c.note.new.found.keys) (declaration_of c.at.result) c.at.ensures.name (rw c.needs.ensures at c.in_ok-note.ensures) l.invariant

pub returns : goal.returns
returns c =
    let l = c.loop-place in
    let names = names_in c.args.names.now in
    let all : length names ≡ l.place = omega arith in
    noted-cyclic names c.args.self.now l.place l.found.keys c.in_ok-texts.texts.items all c.requires l.invariant c.in_ok-texts.ensures.same c.in_ok-texts.ensures.sorted
