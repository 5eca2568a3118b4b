-- What a report of the code stands for, and what it tells of what is kept.
use Rattle.std.specs.Prelude.{Bool, Option, map, option_map}
use Rattle.ori_spec_data.specs.Base.{EntryData}
use Rattle.ori_model.specs.declared.outcome.Report.{Report}
use Rattle.ori_model.specs.Data.{entry_of, entries_of}
use Rattle.ori_script.specs.Pasts.{EarlierData, placed_of}
use Rattle.ori_script.specs.Top.{ReportData}

abbrev pub report_of : Report → ReportData
report_of r = record {
  was_empty = r.was_empty;
  history = entries_of r.history;
  doubt = option_map entry_of r.doubt;
  failed = map placed_of r.failed;
  marks = r.marks;
}

-- of a run whose openings have left this, with an entry in doubt or none
abbrev pub report_on : EarlierData → Bool → Option EntryData → ReportData
report_on e was_empty doubt = record {
  was_empty = was_empty;
  history = e.entries;
  doubt = doubt;
  failed = e.failed;
  marks = e.marks;
}
