-- The reports in the columns that a host lends.
use Rattle.reports.specs.declared.Columns.{Columns}
use Rattle.reports.specs.Reports.{Reports, reports}

abbrev pub reports_in : Columns → Reports
reports_in columns = reports columns.subs.now columns.parties.now columns.lots.now columns.earlier.now
