mod CleanLaws
mod ScanLaws
mod BlankLaws
