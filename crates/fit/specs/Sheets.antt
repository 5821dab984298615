-- What the rules of a sheet answer.
use Rattle.rules.specs.declared.sheet.Fit.{Fit}
use Rattle.rules.specs.declared.sheet.Fit.TheVariants.{First, Best}
use Rattle.rules.specs.Fitting.{Rule, low, snug}
use Rattle.rules.specs.Choosing.{first_of, best_of}
use Rattle.fit.specs.declared.sheet.SheetRule.{SheetRule}
use Rattle.fit.specs.declared.sheet.SheetRule.TheVariants.{Plain, LowOnly, SnugOnly, LowOutside, SnugOutside}

-- the rule that a sheet's fit names
abbrev pub by_fit : Fit → Rule
by_fit First = first_of
by_fit Best = best_of

-- the rule of a sheet, with its layers
abbrev pub by_sheet : SheetRule → Rule
by_sheet (Plain n) = by_fit n.0
by_sheet (LowOnly l) = low l.line (by_fit l.rule.0)
by_sheet (SnugOnly s) = snug s.limit (by_fit s.rule.0)
by_sheet (LowOutside l) = low l.line (snug l.rule.limit (by_fit l.rule.rule.0))
by_sheet (SnugOutside s) = snug s.limit (low s.rule.line (by_fit s.rule.rule.0))
