use Rattle.std.proofs.Common.{◌≡◌, map, option_map, rules}
use Rattle.tf_cli_program.proofs.Taken.{is_recovered, is_unrecovered, same_texts}
use Rattle.tf_cli_program.proofs.recovering.recover.Goals as goal

pub returns-in-Ok-clause-recovered : goal.returns-in-Ok-clause-recovered
returns-in-Ok-clause-recovered g c =
    let given = c.args.header.now in
    let config : c.as_bytes.result.now ≡ given.config = search rules in
    let vars : option_map (λ s. s.now) c.bytes_of.result ≡ given.vars = search rules in
    let state : option_map (λ s. s.now) c.bytes_of-2.result ≡ given.state = search rules in
    let named : c.as_str.result.now ≡ given.lineage = search rules in
    is_recovered (map (λ b. (goal.Provider-dyn g (b.vtable, b.value)).meaning b.value) c.args.providers.now) given c.args.answers c.in-Ok.applied _ c.as_str.result.now
    (same_texts given _ _ _ config vars state) named c.in-Ok.ensures.applied c.take.result c.take.ensures.taken

pub returns-in-Ok-clause-unrecovered : goal.returns-in-Ok-clause-unrecovered
returns-in-Ok-clause-unrecovered g c =
    let given = c.args.header.now in
    let config : c.as_bytes.result.now ≡ given.config = search rules in
    let vars : option_map (λ s. s.now) c.bytes_of.result ≡ given.vars = search rules in
    let state : option_map (λ s. s.now) c.bytes_of-2.result ≡ given.state = search rules in
    let named : c.as_str.result.now ≡ given.lineage = search rules in
    is_unrecovered (map (λ b. (goal.Provider-dyn g (b.vtable, b.value)).meaning b.value) c.args.providers.now) given c.args.answers c.in-Ok.applied _ c.as_str.result.now
    (same_texts given _ _ _ config vars state) named c.in-Ok.ensures.applied c.take.result c.take.ensures.not_taken
