use Rattle.std.proofs.Common.{◌+◌, ◌-◌, ◌*◌, drop, length}
use Rattle.ori_value.specs.View.{trees_of, fields_of}
use Rattle.ori_record.specs.Writing.{HasHoles}
use Rattle.ori_record.specs.Seen.{own_left}
use Rattle.ori_record.proofs.Filling.{ValuesLeft}
use Rattle.ori_record.proofs.Parts.{ItemsLeft, PairsLeft}
use Rattle.ori_record.proofs.put.+puts.Given as goal

abbrev pub decreases-put_value : goal.decreases-put_value
decreases-put_value l = 16 * l.depth + 7

abbrev pub decreases-put_list : goal.decreases-put_list
decreases-put_list l = 16 * l.depth + 6

abbrev pub decreases-put_map : goal.decreases-put_map
decreases-put_map l = 16 * l.depth + 6

abbrev pub decreases-put_document : goal.decreases-put_document
decreases-put_document l = 16 * l.depth + 6

abbrev pub decreases-put_item : goal.decreases-put_item
decreases-put_item l = 16 * l.depth + 8

abbrev pub decreases-put_items : goal.decreases-put_items
decreases-put_items l = 16 * l.depth + 9

abbrev pub decreases-put_pairs : goal.decreases-put_pairs
decreases-put_pairs l = 16 * l.depth + 9

abbrev pub decreases-put_held : goal.decreases-put_held
decreases-put_held l = 16 * l.depth + 8

abbrev pub decreases-fill : goal.decreases-fill
decreases-fill l = 16 * l.depth + 9

abbrev pub decreases-put_values : goal.decreases-put_values
decreases-put_values l = 16 * l.depth + 10

abbrev pub decreases-put_header : goal.decreases-put_header
decreases-put_header l = 16 * l.depth + 11

abbrev pub invariant-put_items-loop-value : goal.invariant-put_items-loop-value
invariant-put_items-loop-value l =
    ItemsLeft l.depth (trees_of l.values) (trees_of (drop l.value-index l.values)) l.initial.out l.out

abbrev pub invariant-put_pairs-loop-name : goal.invariant-put_pairs-loop-name
invariant-put_pairs-loop-name l =
    PairsLeft l.depth (fields_of l.pairs) (fields_of (drop l.name-index l.pairs)) l.initial.out l.out

abbrev pub invariant-put_values-loop-field : goal.invariant-put_values-loop-field
invariant-put_values-loop-field l =
    (h : HasHoles (own_left l.own) l.at l.initial.out)
    → ValuesLeft l.depth l.base (length l.initial.out - l.base) l.place (own_left l.own) (own_left l.left)
    h.front h.back l.out

abbrev pub decreases-put_values-loop-field : goal.decreases-put_values-loop-field
decreases-put_values-loop-field l = length (own_left l.left)
