use Rattle.dbox_metadata.proofs.BriefLemmas.{origin_line, received_line, physical_line, virtual_line, unknown_line}
use Rattle.dbox_metadata.proofs.brief.BriefReader.take.Goals as goal

pub returns-in-Some-Origin-clause-takes : goal.returns-in-Some-Origin-clause-takes
returns-in-Some-Origin-clause-takes c =
    let is = rw c.in-Some-Origin.field-0-is at c.in-Some-Origin.ensures.some in
    origin_line c.args.self.now c.take_origin.new.self c.args.key c.args.value.now c.take_origin.result is c.requires c.take_origin.ensures.first c.take_origin.ensures.same

pub returns-in-Some-Received-clause-takes : goal.returns-in-Some-Received-clause-takes
returns-in-Some-Received-clause-takes c =
    let is = rw c.in-Some-Received.field-0-is at c.in-Some-Received.ensures.some in
    let set = c.set_number.ensures in
    received_line c.args.self.now c.args.key c.args.value.now c.set_number.new.number c.set_number.result is c.requires (record { yes = set.yes; no = set.no })

pub returns-in-Some-PhysicalSize-clause-takes : goal.returns-in-Some-PhysicalSize-clause-takes
returns-in-Some-PhysicalSize-clause-takes c =
    let is = rw c.in-Some-PhysicalSize.field-0-is at c.in-Some-PhysicalSize.ensures.some in
    let set = c.set_number-in-Some-PhysicalSize.ensures in
    physical_line c.args.self.now c.args.key c.args.value.now c.set_number-in-Some-PhysicalSize.new.number c.set_number-in-Some-PhysicalSize.result is c.requires (record { yes = set.yes; no = set.no })

pub returns-in-Some-VirtualSize-clause-takes : goal.returns-in-Some-VirtualSize-clause-takes
returns-in-Some-VirtualSize-clause-takes c =
    let is = rw c.in-Some-VirtualSize.field-0-is at c.in-Some-VirtualSize.ensures.some in
    let set = c.set_number-in-Some-VirtualSize.ensures in
    virtual_line c.args.self.now c.args.key c.args.value.now c.set_number-in-Some-VirtualSize.new.number c.set_number-in-Some-VirtualSize.result is c.requires (record { yes = set.yes; no = set.no })

pub returns-in-None-clause-takes : goal.returns-in-None-clause-takes
returns-in-None-clause-takes c = unknown_line c.args.self.now c.args.key c.args.value.now c.in-None.ensures.none c.requires
