use Rattle.std.proofs.Common.{◌≡◌, ◌++◌, length, vec_len, string_bytes}
use Rattle.warehouse.specs.Views.{dims_in, limits_in, house_of}
use Rattle.journal.specs.Deeds.{deeds_in, is_whole}
use Rattle.journal.specs.Replies.{replies}
use Rattle.journal.proofs.day.run.Given as goal

abbrev pub invariant-loop-step : goal.invariant-loop-step
invariant-loop-step l =
    let start = l.initial.desk in
    record {
      layout : l.desk.house.layout ≡ start.house.layout;
      out : vec_len l.desk.out ≡ vec_len start.out;
      told : string_bytes l.desk.text ++ replies (dims_in l.desk.house) (limits_in l.desk.house) (house_of l.desk.house) (deeds_in l.width (vec_len start.out) l.rest)
          ≡ string_bytes start.text ++ replies (dims_in start.house) (limits_in start.house) (house_of start.house) (deeds_in l.width (vec_len start.out) l.initial.rest);
      whole : is_whole l.width l.rest ≡ is_whole l.width l.initial.rest;
    }

abbrev pub decreases-loop-step : goal.decreases-loop-step
decreases-loop-step l = length l.rest
