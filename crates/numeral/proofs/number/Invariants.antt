-- the digits so far are digits, and so_far is their number where that fits
use Rattle.std.proofs.Common.{◌^◌, ◌<◌, take}
use Rattle.std.specs.Option.{SomeIff}
use Rattle.std.specs.Str.Parse.{AllDigits, digits_value}
use Rattle.numeral.proofs.number.Given as goal

abbrev pub invariant-loop-b : goal.invariant-loop-b
invariant-loop-b l =
    AllDigits 10 (take l.b-index l.digits)
    × SomeIff l.so_far (digits_value 10 (take l.b-index l.digits) < 2 ^ 64) (digits_value 10 (take l.b-index l.digits))
