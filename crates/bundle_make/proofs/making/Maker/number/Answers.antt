use Rattle.std.proofs.Common.{length}
use Rattle.bundle_make.proofs.Targets.{number_none, number_some, number_there}
use Rattle.bundle_make.proofs.making.Maker.number.Goals as goal

pub number-requires : goal.number-requires
number-requires c =
    number_there (length c.args.self.now.board.now.core.entries) c.args.self.now.listing.now.ids.items
    c.args.self.now.listing.now.numbers.items c.requires.listing c.args.target c.requires.listed

pub unreachable-requires : goal.unreachable-requires
unreachable-requires c =
    number_none (length c.args.self.now.board.now.core.entries) c.args.self.now.listing.now.ids.items
    c.args.self.now.listing.now.numbers.items c.requires.listing c.args.target c.requires.listed c.number.result c.number.ensures
    c.in-None.is

pub returns : goal.returns
returns c =
    number_some (length c.args.self.now.board.now.core.entries) c.args.self.now.listing.now.ids.items
    c.args.self.now.listing.now.numbers.items c.requires.listing c.args.target c.requires.listed c.in-Some.number c.number.result
    c.number.ensures c.in-Some.is
