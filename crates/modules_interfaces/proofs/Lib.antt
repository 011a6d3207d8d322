mod NeedLists
mod PortLists
mod ReportLists
mod SystemReports
mod CountSteps
