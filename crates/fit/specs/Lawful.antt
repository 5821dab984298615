-- The rules of a sheet are fit rules.
use Rattle.std.specs.Prelude.{ℕ}
use Rattle.rules.specs.declared.sheet.Fit.{Fit}
use Rattle.rules.specs.declared.sheet.Fit.TheVariants.{First, Best}
use Rattle.rules.specs.Fitting.{IsFitRule, Rule, ends_below, is_snug, low, snug}
use Rattle.rules.proofs.Layers.{first_fit_is_a_fit_rule, best_fit_is_a_fit_rule, layer_is_a_fit_rule}
use Rattle.rules.specs.Choosing.{first_of, best_of}
use Rattle.fit.specs.Sheets.{by_fit, by_sheet}
use Rattle.fit.specs.declared.sheet.SheetRule.{SheetRule}
use Rattle.fit.specs.declared.sheet.SheetRule.TheVariants.{Plain, LowOnly, SnugOnly, LowOutside, SnugOutside}
use Rattle.rules.proofs.Chosen.{first_takes_the_lowest, best_takes_the_tightest}

pub low_lawful : (line : ℕ) (rule : Rule) → IsFitRule rule → IsFitRule (low line rule)
low_lawful line rule = layer_is_a_fit_rule (λ g size grain. ends_below line g) rule

pub snug_lawful : (limit : ℕ) (rule : Rule) → IsFitRule rule → IsFitRule (snug limit rule)
snug_lawful limit rule = layer_is_a_fit_rule (is_snug limit) rule

pub by_fit_lawful : (fit : Fit) → IsFitRule (by_fit fit)
by_fit_lawful First = first_fit_is_a_fit_rule first_of first_takes_the_lowest
by_fit_lawful Best = best_fit_is_a_fit_rule best_of best_takes_the_tightest

pub by_sheet_lawful : (rule : SheetRule) → IsFitRule (by_sheet rule)
by_sheet_lawful (Plain n) = by_fit_lawful n.0
by_sheet_lawful (LowOnly l) = low_lawful l.line (by_fit l.rule.0) (by_fit_lawful l.rule.0)
by_sheet_lawful (SnugOnly s) = snug_lawful s.limit (by_fit s.rule.0) (by_fit_lawful s.rule.0)
by_sheet_lawful (LowOutside l) =
    low_lawful l.line (snug l.rule.limit (by_fit l.rule.rule.0))
    (snug_lawful l.rule.limit (by_fit l.rule.rule.0) (by_fit_lawful l.rule.rule.0))
by_sheet_lawful (SnugOutside s) =
    snug_lawful s.limit (low s.rule.line (by_fit s.rule.rule.0))
    (low_lawful s.rule.line (by_fit s.rule.rule.0) (by_fit_lawful s.rule.rule.0))
