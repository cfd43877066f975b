use Rattle.std.proofs.Common.{ap, sym, true, ◌∙◌, ◌≡◌, length, take, drop, set}
use Rattle.std.proofs.lemmas.Bool.{cond-true}
use Rattle.disk_model.specs.Name.{same_name}
use Rattle.disk_mem.specs.Mem.{told}
use Rattle.disk_mem.specs.Mute.{as_altered}
use Rattle.disk_mem.proofs.MuteLemmas.{read_altered, read_behind}
use Rattle.disk_mem.proofs.mute.MuteDiskDisk.read_at.Goals as goal

pub returns-then-place-count-clause-octets : goal.returns-then-place-count-clause-octets
returns-then-place-count-clause-octets c =
    let self = c.args.self.now in
    let octets = ((told self.inner).now c.args.name).octets in
    let read = c.in_ok-count.ensures.octets in
    let test = c.if-place-count.true in
    let named : same_name c.args.name self.name ≡ true = sym c.is_named.ensures ∙ c.if-is_named.true in
    let altered : as_altered self c.args.name octets ≡ set octets self.offset self.octet = cond-true (same_name c.args.name self.name) (set octets self.offset self.octet) octets named in (
      octets,
      read.0,
      read_altered c.read_at.new.into octets c.args.offset self.offset (length c.args.into.now) c.in_ok-count.count self.octet c.if-offset-self.true test c.in_ok-count.ensures.count read.1
          ∙ ap (λ xs. take (length c.args.into.now) (drop c.args.offset xs)) (sym altered),
    )

pub returns-else-place-count-clause-octets : goal.returns-else-place-count-clause-octets
returns-else-place-count-clause-octets c =
    let self = c.args.self.now in
    let octets = ((told self.inner).now c.args.name).octets in
    let read = c.in_ok-count.ensures.octets in
    let test = c.if-place-count.false in
    let named : same_name c.args.name self.name ≡ true = sym c.is_named.ensures ∙ c.if-is_named.true in
    let altered : as_altered self c.args.name octets ≡ set octets self.offset self.octet = cond-true (same_name c.args.name self.name) (set octets self.offset self.octet) octets named in (
      octets,
      read.0,
      read.1 ∙ sym (read_behind c.read_at.new.into octets c.args.offset self.offset (length c.args.into.now) c.in_ok-count.count self.octet test c.if-offset-self.true c.in_ok-count.ensures.count read.1)
          ∙ ap (λ xs. take (length c.args.into.now) (drop c.args.offset xs)) (sym altered),
    )
